use Rattle.std.proofs.Common.{rules}
use Rattle.qs_recv.proofs.LawfulLaws.{small_highest, small_count}
use Rattle.qs_recv.proofs.live.LiveHalf.taken.Goals as goal

pub returns-else-self-2-clause-in_range : goal.returns-else-self-2-clause-in_range
returns-else-self-2-clause-in_range g c = search (rules, small_highest, small_count)
