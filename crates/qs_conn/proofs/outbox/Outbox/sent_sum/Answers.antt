use Rattle.std.proofs.Common.{ap, ◌∙◌, sym}
use Rattle.qs_machine.specs.Outgoing.{Outgoing, sent_sum}
use Rattle.qs_conn.proofs.outbox.Outbox.sent_sum.Goals as goal

pub returns-clause-value : goal.returns-clause-value
returns-clause-value c = sym c.self.invariant.0.sum ∙ ap (λ (o : Outgoing). sent_sum o.sends) c.self.view_is
