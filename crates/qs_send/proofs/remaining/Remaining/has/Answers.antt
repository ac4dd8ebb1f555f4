use Rattle.std.proofs.Common.{length-drop, rules}
use Rattle.std.proofs.lemmas.List.{take_all}
use Rattle.qs_send.proofs.PieceEquality.{among_of_any, any_of_among}
use Rattle.qs_send.proofs.remaining.Remaining.has.Goals as goal

pub returns : goal.returns
returns c = rw (← c.self.view_is) (search (rules, take_all, length-drop, among_of_any, any_of_among))
