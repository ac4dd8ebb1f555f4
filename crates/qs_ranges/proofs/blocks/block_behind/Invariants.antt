use Rattle.std.proofs.Common.{◌-◌, ◌<◌, ◌≤◌, length}
use Rattle.qs_ranges.specs.Runs.{start_at}
use Rattle.qs_ranges.specs.Blocks.{block_at}
use Rattle.qs_ranges.proofs.blocks.block_behind.Given as goal

abbrev pub invariant-loop-from : goal.invariant-loop-from
invariant-loop-from l =
    (l.fn.at < l.from)
    × (l.from ≤ l.to)
    × (l.to ≤ length l.blocks)
    × ((0 < length (block_at l.blocks (l.from - 1))) × (start_at (block_at l.blocks (l.from - 1)) 0 < l.high))
    × (l.to < length l.blocks → (0 < length (block_at l.blocks l.to)) × (l.high ≤ start_at (block_at l.blocks l.to) 0))

abbrev pub decreases-loop-from : goal.decreases-loop-from
decreases-loop-from l = l.to - l.from
