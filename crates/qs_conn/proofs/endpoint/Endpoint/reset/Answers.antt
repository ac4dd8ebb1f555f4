use Rattle.std.proofs.Common.{sym, ◌∙◌}
use Rattle.qs_conn.proofs.Cores.{kept_outbox, rest_reset}
use Rattle.qs_conn.proofs.endpoint.Endpoint.reset.Goals as goal

pub invariant_of-self : goal.invariant_of-self
invariant_of-self c = kept_outbox c.self.inside.core _ _ _ _ _ c.self.invariant _ _ (rest_reset c.self.inside.core c.self.invariant.rest c.args.stream c.args.code _ _ (sym c.reset.ensures.answer ∙ c.in-Ok.is) c.reset.ensures.after c.set.ensures)
