use Rattle.std.proofs.Common.{◌∙◌}
use Rattle.qs_conn.specs.Tasks.{has}
use Rattle.qs_conn.proofs.Marked.{mark_tells}
use Rattle.qs_conn.proofs.send_lanes.SendLanes.marks.Goals as goal

pub returns : goal.returns
returns c i = rw (← c.self.view_is, c.of.ensures) ((c.self.invariant.1 c.args.task).tell i ∙ mark_tells (has c.args.task) c.self.inside.halves i)
