use Rattle.std.proofs.Common.{◌≡◌, ◌*◌}
use Rattle.qs_world.specs.LaneLists.{lanes_from}
use Rattle.qs_world.proofs.reporting.all_lanes.Given as goal

-- the lanes of all streams below the index
abbrev pub invariant-loop-index : goal.invariant-loop-index
invariant-loop-index l = l.lanes.items ≡ lanes_from (record { a = l.a; b = l.b }) 0 (l.index * 4)
