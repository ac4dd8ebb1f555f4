use Rattle.qs_recv.proofs.LawfulLaws.{stored_taken}
use Rattle.qs_recv.proofs.live.LiveHalf.sizes.Goals as goal

pub returns-clause-paid : goal.returns-clause-paid
returns-clause-paid g c = rw (← c.self.view_is) (stored_taken _ c.self.invariant.0.lawful)
