use Rattle.std.proofs.Common.{◌≡◌, ◌++◌, ◌*◌}
use Rattle.qs_world.specs.LaneLists.{lanes_from}
use Rattle.qs_world.proofs.reporting.push_index.Given as goal

-- the lanes of the streams so far are added
abbrev pub invariant-loop-kind : goal.invariant-loop-kind
invariant-loop-kind l = l.lanes.items ≡ l.fn.lanes.items ++ lanes_from (record { a = l.a; b = l.b }) (l.index * 4) l.kind
