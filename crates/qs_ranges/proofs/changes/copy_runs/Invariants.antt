use Rattle.std.proofs.Common.{◌≡◌, length, take}
use Rattle.qs_ranges.specs.Blocks.{all_runs}
use Rattle.qs_ranges.proofs.changes.copy_runs.Given as goal

abbrev pub invariant-loop-block : goal.invariant-loop-block
invariant-loop-block l =
    (l.count ≡ length (all_runs (take l.block-index l.blocks)))
    × (take l.count l.into ≡ all_runs (take l.block-index l.blocks))
    × (length l.into ≡ length l.fn.into)
