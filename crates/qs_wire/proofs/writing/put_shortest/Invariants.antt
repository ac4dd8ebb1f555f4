use Rattle.std.proofs.Common.{◌≡◌, ◌+◌, ◌++◌, List, ℕ, length}
use Rattle.std.specs.List.{flat_map}
use Rattle.qs_wire.specs.Varint.{short, numbers_of}
use Rattle.qs_wire.specs.Writing.{Puts}
use Rattle.qs_wire.proofs.writing.put_shortest.Given as goal

-- what is written so far, and what is left to write
abbrev pub invariant-loop-value : goal.invariant-loop-value
invariant-loop-value l =
    (front : List ℕ) × (front ++ flat_map short (numbers_of l.rest) ≡ flat_map short (numbers_of l.numbers)) × Puts l.at front l.fn.out l.out × (l.next ≡ l.at + length front)

abbrev pub decreases-loop-value : goal.decreases-loop-value
decreases-loop-value l = length l.rest
