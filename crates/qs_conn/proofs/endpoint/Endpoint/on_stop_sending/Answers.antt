use Rattle.std.proofs.Common.{refl, ◌∙◌}
use Rattle.qs_machine.proofs.Taken.{out_there}
use Rattle.qs_conn.proofs.Cores.{kept_outbox, rest_told_to_stop}
use Rattle.qs_conn.proofs.endpoint.Endpoint.on_stop_sending.Goals as goal

pub stopped-requires-clause-open : goal.stopped-requires-clause-open
stopped-requires-clause-open c = out_there c.args.self.now _ c.args.stream c.requires.passed (c.self.view_is ∙ c.in_ok-open_by_peer.ensures.ok)

pub invariant_of-self : goal.invariant_of-self
invariant_of-self c =
    let core = c.self.inside.core in
    rw c.note_reset.ensures.same (kept_outbox core _ _ _ _ _ c.self.invariant _ _ (rest_told_to_stop core c.self.invariant.rest core.limits.tuning.answers_stops c.args.stream c.args.code c.reset_of-was.result _ _ c.reset_of-was.ensures.value c.stopped.ensures c.note_reset.ensures.marked))
