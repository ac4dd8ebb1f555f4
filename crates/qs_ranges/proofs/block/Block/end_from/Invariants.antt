use Rattle.std.proofs.Common.{◌-◌, ◌<◌, ◌≤◌, length}
use Rattle.qs_ranges.specs.Runs.{end_at}
use Rattle.qs_ranges.proofs.block.Block.end_from.Given as goal

abbrev pub invariant-loop-from : goal.invariant-loop-from
invariant-loop-from l =
    (l.from ≤ l.to)
    × (l.to ≤ length l.self)
    × (0 < l.from → end_at l.self (l.from - 1) < l.low)
    × (l.to < length l.self → l.low ≤ end_at l.self l.to)

abbrev pub decreases-loop-from : goal.decreases-loop-from
decreases-loop-from l = l.to - l.from
