use Rattle.std.proofs.Common.{◌-◌, ◌<◌, ◌≤◌, length}
use Rattle.qs_ranges.specs.Runs.{start_at}
use Rattle.qs_ranges.proofs.block.Block.start_behind.Given as goal

abbrev pub invariant-loop-from : goal.invariant-loop-from
invariant-loop-from l =
    (l.fn.at < l.from)
    × (l.from ≤ l.to)
    × (l.to ≤ length l.self)
    × (start_at l.self (l.from - 1) < l.high)
    × (l.to < length l.self → l.high ≤ start_at l.self l.to)

abbrev pub decreases-loop-from : goal.decreases-loop-from
decreases-loop-from l = l.to - l.from
