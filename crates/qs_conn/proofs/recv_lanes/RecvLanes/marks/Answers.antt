use Rattle.std.proofs.Common.{◌∙◌}
use Rattle.qs_conn.specs.RecvTasks.{has}
use Rattle.qs_conn.proofs.Marked.{mark_tells}
use Rattle.qs_conn.proofs.recv_lanes.RecvLanes.marks.Goals as goal

pub returns : goal.returns
returns c i = rw (← c.self.view_is, c.marks.ensures) ((c.self.invariant.noted c.args.task).tell i ∙ mark_tells (has c.args.task) c.self.inside.halves.items i)
