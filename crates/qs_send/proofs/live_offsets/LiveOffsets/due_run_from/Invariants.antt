use Rattle.std.proofs.Common.{◌-◌, ◌^◌}
use Rattle.qs_send.proofs.Runs.{NoneDueBelow}
use Rattle.qs_send.proofs.live_offsets.LiveOffsets.due_run_from.Given as goal

abbrev pub invariant-loop-start : goal.invariant-loop-start
invariant-loop-start l = NoneDueBelow l.self-inside.noted l.self-inside.acked l.from

abbrev pub decreases-loop-start : goal.decreases-loop-start
decreases-loop-start l = 2 ^ 62 - l.from
