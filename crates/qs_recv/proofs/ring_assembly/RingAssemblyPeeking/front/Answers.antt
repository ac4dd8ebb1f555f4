use Rattle.std.proofs.Common.{rules}
use Rattle.qs_recv.proofs.RingApart.{next_shown}
use Rattle.qs_recv.proofs.ring_assembly.RingAssemblyPeeking.front.Goals as goal

pub returns-clause-next : goal.returns-clause-next
returns-clause-next c = rw (← c.self.view_is, c.if-self.false) (search (rules, next_shown))
