use Rattle.std.proofs.Common.{refl}
use Rattle.qs_conn.proofs.Cores.{kept_moved, rest_stopped}
use Rattle.qs_conn.proofs.endpoint.Endpoint.stop.Goals as goal

pub invariant_of-self : goal.invariant_of-self
invariant_of-self c = rw c.note_stop.ensures.same (kept_moved _ _ _ _ _ _ c.self.invariant _ (rest_stopped c.self.inside.core c.self.invariant.rest c.args.stream c.args.code c.stop_to_tell-was.result _ _ c.stop_to_tell-was.ensures.value c.stop.ensures c.note_stop.ensures.marked))
