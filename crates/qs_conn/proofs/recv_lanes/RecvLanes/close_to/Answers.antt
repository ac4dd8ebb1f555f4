use Rattle.qs_conn.proofs.LaneEdits.{fewer}
use Rattle.qs_conn.proofs.recv_lanes.RecvLanes.close_to.Goals as goal

pub invariant_of-self : goal.invariant_of-self
invariant_of-self c = rw c.truncate.ensures.items (fewer c.args.count c.self.inside.halves.items _ _ _ _ (rw (← c.self.view_is) at c.requires) c.clear_from.ensures c.self.invariant)
