use Rattle.std.proofs.Common.{sym, ◌∙◌}
use Rattle.qs_recv.proofs.RestLaws.{at_rest_reset}
use Rattle.qs_recv.proofs.rest.Rest.take_reset.Goals as goal

pub invariant_of-self : goal.invariant_of-self
invariant_of-self c =
    at_rest_reset _ _ _ _ _ _ _ _ _ (rw (← c.self.view_is) at (sym c.is_whole.ensures ∙ c.if-is_whole.false)) (rw (← c.self.view_is) at c.requires.passed) (rw c.if-self.false at c.self.invariant)
