use Rattle.qs_recv.proofs.LawfulLaws.{covered_is}
use Rattle.qs_recv.proofs.live.LiveHalf.is_whole.Goals as goal

pub returns-then-self : goal.returns-then-self
returns-then-self g c = rw (← c.self.view_is, c.if-self.true) (covered_is _ _ 0 c.self.inside.size (rw c.received.ensures at c.covers.ensures))
