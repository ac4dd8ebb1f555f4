use Rattle.std.proofs.Common.{sym}
use Rattle.qs_recv.proofs.RestLaws.{end_at_rest}
use Rattle.qs_recv.proofs.LawfulLaws.{end_of-below}
use Rattle.qs_recv.proofs.rest.Rest.highest.Goals as goal

pub returns-else-self-clause-value : goal.returns-else-self-clause-value
returns-else-self-clause-value c = rw (← c.self.view_is, c.if-self.false) (sym (end_of-below c.self.inside.received_end))

pub returns-else-self-clause-in_range : goal.returns-else-self-clause-in_range
returns-else-self-clause-in_range c = end_at_rest _ _ _ _ _ _ _ _ c.self.invariant
