use Rattle.std.proofs.Common.{sym, ◌∙◌}
use Rattle.qs_conn.proofs.Cores.{kept_outbox, rest_finished}
use Rattle.qs_conn.proofs.endpoint.Endpoint.finish.Goals as goal

pub invariant_of-self : goal.invariant_of-self
invariant_of-self c =
    kept_outbox c.self.inside.core _ _ _ _ _ c.self.invariant _ _
    (rest_finished c.self.inside.core c.self.invariant.rest c.args.stream c.learn_sending.ensures.0 _ c.learn_sending.ensures.1 (sym c.finish.ensures.answer ∙ c.in-Ok.is) c.in-Ok.ensures.ok)
