use Rattle.qs_recv.proofs.RestLaws.{read_at_rest, read_below}
use Rattle.qs_recv.proofs.rest.Rest.taken.Goals as goal

pub returns-else-self-2-clause-in_range : goal.returns-else-self-2-clause-in_range
returns-else-self-2-clause-in_range c = read_at_rest _ _ _ _ _ _ _ _ c.self.invariant

pub returns-else-self-2-clause-within : goal.returns-else-self-2-clause-within
returns-else-self-2-clause-within c = rw (← c.self.view_is) (read_below _ _ _ c.self.invariant)
