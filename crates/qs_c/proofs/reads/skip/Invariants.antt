use Rattle.std.proofs.Common.{◌≡◌, ◌+◌, ◌-◌, length}
use Rattle.qs_c.specs.Places.{skip_of}
use Rattle.qs_c.proofs.reads.skip.Given as goal

-- the bytes so far, and those of the numbers that are left
abbrev pub invariant-loop : goal.invariant-loop
invariant-loop l = record {
  bytes_so_far : l.at + skip_of (l.count - l.counter) l.rest ≡ skip_of l.count l.bytes;
  within : l.at + length l.rest ≡ length l.bytes;
}
