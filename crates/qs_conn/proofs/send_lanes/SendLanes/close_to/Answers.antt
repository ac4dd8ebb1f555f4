use Rattle.qs_conn.proofs.Tasks.{all_fewer}
use Rattle.qs_conn.proofs.send_lanes.SendLanes.close_to.Goals as goal

pub invariant_of-self : goal.invariant_of-self
invariant_of-self c = all_fewer c.self.inside.halves _ c.self.inside.marks _ c.self.inside.promised c.self.inside.kept c.args.count c.truncate.ensures c.clear_from.ensures (rw c.self.view_is c.requires.unwritten) (rw c.self.view_is c.requires.unkept) c.self.invariant
