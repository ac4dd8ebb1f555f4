use Rattle.qs_recv.proofs.RestLaws.{ends_at_rest}
use Rattle.qs_recv.proofs.rest.Rest.ends.Goals as goal

pub returns-then-self-2-clause-answer : goal.returns-then-self-2-clause-answer
returns-then-self-2-clause-answer c = λ room.
    let open_reset = rw (← c.self.view_is) at c.requires in
    rw (← c.self.view_is, open_reset, c.if-self.false, c.if-self-2.true) (ends_at_rest _ _ _ _ room _ _ (rw (open_reset, c.if-self.false, c.if-self-2.true) at c.self.invariant))

pub returns-else-self-2-clause-answer : goal.returns-else-self-2-clause-answer
returns-else-self-2-clause-answer c = λ room.
    let open_reset = rw (← c.self.view_is) at c.requires in
    rw (← c.self.view_is, open_reset, c.if-self.false, c.if-self-2.false) (ends_at_rest _ _ _ _ room _ _ (rw (open_reset, c.if-self.false, c.if-self-2.false) at c.self.invariant))
