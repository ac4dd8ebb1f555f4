use Rattle.std.proofs.Common.{refl}
use Rattle.qs_machine.specs.Sums.{tables_of}
use Rattle.qs_conn.proofs.Hearing.{quiet_at}
use Rattle.qs_conn.proofs.outbox.Outbox.may_have.Goals as goal

pub returns : goal.returns
returns c = λ none n. quiet_at c.args.task _ c.args.self.now (tables_of c.self.inside.types) n c.self.view_is refl (c.self.invariant.0.tied.lanes n) (λ s. c.may_have.ensures none n s)
