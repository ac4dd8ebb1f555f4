use Rattle.std.proofs.Common.{◌-◌, ◌<◌, ◌≤◌, length}
use Rattle.qs_ranges.specs.Runs.{end_at}
use Rattle.qs_ranges.specs.Blocks.{block_at}
use Rattle.qs_ranges.proofs.blocks.block_from.Given as goal

abbrev pub invariant-loop-from : goal.invariant-loop-from
invariant-loop-from l =
    (l.from ≤ l.to)
    × (l.to ≤ length l.blocks)
    × (0 < l.from → (0 < length (block_at l.blocks (l.from - 1))) × (end_at (block_at l.blocks (l.from - 1)) (length (block_at l.blocks (l.from - 1)) - 1) < l.low))
    × (l.to < length l.blocks → l.low ≤ end_at (block_at l.blocks l.to) (length (block_at l.blocks l.to) - 1))

abbrev pub decreases-loop-from : goal.decreases-loop-from
decreases-loop-from l = l.to - l.from
