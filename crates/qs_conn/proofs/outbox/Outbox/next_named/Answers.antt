use Rattle.std.proofs.Common.{rules}
use Rattle.qs_conn.proofs.Outboxes.{idle_out}
use Rattle.qs_conn.proofs.outbox.Outbox.next_named.Goals as goal

pub returns-then-late-clause-answer : goal.returns-then-late-clause-answer
returns-then-late-clause-answer c = rw (c.if-late.true, ← c.self.view_is) c.next_lost.ensures.answer

pub returns-clause-answer : goal.returns-clause-answer
returns-clause-answer c = rw c.if-late.false (search (rules, idle_out))

pub returns-then-below-base-clause-answer : goal.returns-then-below-base-clause-answer
returns-then-below-base-clause-answer c = rw c.if-late.false (search (rules, idle_out))
