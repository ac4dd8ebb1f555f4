use Rattle.std.proofs.Common.{◌≡◌, ◌+◌, length}
use Rattle.qs_wire.specs.Layout.{taken}
use Rattle.qs_wire.specs.Varint.{numbers_of}
use Rattle.qs_c.proofs.puts.falls_below_zero.Given as goal

-- what is left, and all that is taken
abbrev pub invariant-loop-value : goal.invariant-loop-value
invariant-loop-value l = l.left + taken (numbers_of l.numbers) ≡ (l.largest + 1) + taken (numbers_of l.rest)

abbrev pub decreases-loop-value : goal.decreases-loop-value
decreases-loop-value l = length l.rest
