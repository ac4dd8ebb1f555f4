use Rattle.std.proofs.Common.{◌<◌, length}
use Rattle.qs_send.specs.Halves.{half_at}
use Rattle.qs_conn.specs.Edits.{after_set}
use Rattle.qs_conn.proofs.LaneEdits.{set_sums, put_looked}
use Rattle.qs_conn.proofs.send_lanes.SendLanes.set.Goals as goal

pub invariant_of-self : goal.invariant_of-self
invariant_of-self c =
    let there : c.args.index < length c.self.inside.halves = rw c.self.view_is c.requires.there in
    let was = half_at c.self.inside.halves c.args.index in
    put_looked c.self.inside.halves _ c.self.inside.marks c.args.index (after_set c.args.setting was) there c.set_in.ensures _ _ _ c.look_at.ensures (set_sums was c.args.setting).0 (set_sums was c.args.setting).1 c.self.invariant
