use Rattle.std.proofs.Common.{rules}
use Rattle.std.proofs.lemmas.Bool.{both_ways}
use Rattle.qs_recv.proofs.RingApart.{piece_there}
use Rattle.qs_recv.proofs.pages.Pages.are_at.Goals as goal

pub loop-done-preserved : goal.loop-done-preserved
loop-done-preserved c = search (rules, piece_there, both_ways)
