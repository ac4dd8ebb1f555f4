use Rattle.qs_recv.proofs.RestLaws.{at_rest_stopped}
use Rattle.qs_recv.proofs.rest.Rest.stop.Goals as goal

pub invariant_of-self : goal.invariant_of-self
invariant_of-self c = at_rest_stopped _ _ _ _ _ _ _ _ c.requires (rw c.if-not-self.true at c.self.invariant)
