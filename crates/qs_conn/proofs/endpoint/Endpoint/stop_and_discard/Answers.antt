use Rattle.std.proofs.Common.{refl}
use Rattle.qs_conn.proofs.MadePackets.{may_recount}
use Rattle.qs_conn.proofs.Cores.{kept_moved, rest_forgotten}
use Rattle.qs_conn.proofs.endpoint.Endpoint.stop_and_discard.Goals as goal

pub invariant_of-self : goal.invariant_of-self
invariant_of-self c =
    rw c.note_stop.ensures.same
    (kept_moved _ _ _ _ _ _ c.self.invariant _
    (rest_forgotten c.self.inside.core c.self.invariant.rest c.args.stream c.args.code c.stop_to_tell-told.result _ _ _ c.is_over-was.result c.is_over-is.result c.stop_to_tell-told.ensures.value c.stop_and_discard.ensures c.note_stop.ensures.marked c.is_over-was.ensures.value c.is_over-is.ensures.value (c.recount.ensures (may_recount _ _ _ _ _ _ c.self.invariant.rest.core.counts.counted c.is_over-was.ensures.value c.is_over-was.ensures.few))))
