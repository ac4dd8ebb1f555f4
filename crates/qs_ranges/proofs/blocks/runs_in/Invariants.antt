use Rattle.std.proofs.Common.{◌≡◌, ◌+◌, length, take}
use Rattle.qs_ranges.specs.Blocks.{all_runs, place}
use Rattle.qs_ranges.proofs.blocks.runs_in.Given as goal

abbrev pub invariant-loop-at : goal.invariant-loop-at
invariant-loop-at l = place l.fn.blocks l.fn.span.block l.fn.span.from + l.count ≡ length (all_runs (take l.at l.fn.blocks))
