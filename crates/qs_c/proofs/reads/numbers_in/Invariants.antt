use Rattle.std.proofs.Common.{◌≡◌, ◌+◌, ◌≤◌, length}
use Rattle.qs_wire.specs.Varint.{numbers_of}
use Rattle.qs_c.proofs.reads.numbers_in.Given as goal

-- the numbers so far, and those that are left
abbrev pub invariant-loop-len : goal.invariant-loop-len
invariant-loop-len l = record {
  count : l.count + length (numbers_of l.rest) ≡ length (numbers_of l.bytes);
  counted : l.count + length l.rest ≤ length l.bytes;
}

abbrev pub decreases-loop-len : goal.decreases-loop-len
decreases-loop-len l = length l.rest
