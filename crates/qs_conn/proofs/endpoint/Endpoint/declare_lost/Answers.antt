use Rattle.std.proofs.Common.{refl, sym, ◌∙◌}
use Rattle.qs_conn.proofs.Cores.{kept_streams}
use Rattle.qs_conn.proofs.AckRuns.{lost_ok, lost_err}
use Rattle.qs_conn.proofs.endpoint.Endpoint.declare_lost.Goals as goal
use Rattle.qs_conn.proofs.endpoint.Endpoint.declare_lost.Goals.{in-Ok, in-Err}

pub invariant_of-self : goal.invariant_of-self
invariant_of-self c = kept_streams c.self.inside.core _ _ _ _ _ c.self.invariant c.lose.new.self c.lose.ensures.rest c.lose.ensures.streams c.lose.ensures.ended

pub returns : goal.returns
returns c =
    rw (c.lose.ensures.streams.limits, c.lose.ensures.streams.recvs) (elim c.match-lose.branch [
      | in-Ok w ↦ lost_ok _ c.args.self.now c.self.inside.core.outbox c.lose.new.self.outbox c.args.number c.lose.result _ c.self.view_is refl (sym c.in_default.is ∙ c.lose_refusal.ensures) w.in-Ok.is w.result-is c.lose.ensures.step
      | in-Err w ↦ lost_err _ c.args.self.now c.self.inside.core.outbox c.lose.new.self.outbox c.args.number c.lose.result _ _ c.self.view_is refl (sym c.in_default.is ∙ c.lose_refusal.ensures) w.in-Err.is w.result-is c.lose.ensures.step
    ])
