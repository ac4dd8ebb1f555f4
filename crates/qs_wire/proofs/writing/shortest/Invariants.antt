use Rattle.std.proofs.Common.{◌≡◌, ◌+◌, ◌≤◌, length}
use Rattle.std.specs.List.{flat_map}
use Rattle.qs_wire.specs.Varint.{short, numbers_of}
use Rattle.qs_wire.proofs.writing.shortest.Given as goal

-- the numbers so far, and those that are left
abbrev pub invariant-loop-value : goal.invariant-loop-value
invariant-loop-value l = record {
  count : l.count + length (numbers_of l.rest) ≡ length (numbers_of l.numbers);
  len : l.shortest_len + length (flat_map short (numbers_of l.rest)) ≡ length (flat_map short (numbers_of l.numbers));
  counted : l.count + length l.rest ≤ length l.numbers;
  within : l.shortest_len + length l.rest ≤ length l.numbers;
}

abbrev pub decreases-loop-value : goal.decreases-loop-value
decreases-loop-value l = length l.rest
