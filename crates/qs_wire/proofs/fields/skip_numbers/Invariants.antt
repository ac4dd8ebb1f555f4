use Rattle.std.proofs.Common.{◌≡◌, ℕ, ◌-◌, ◌≤◌, List, length}
use Rattle.qs_wire.specs.Layout.{taken}
use Rattle.qs_wire.specs.Reading.{numbers_at}
use Rattle.qs_wire.proofs.Ranges.{with_front}
use Rattle.qs_wire.proofs.fields.skip_numbers.Given as goal

-- the numbers so far, those still to come, and what is left of the limit
abbrev pub invariant-loop : goal.invariant-loop
invariant-loop l = record {
  shorter : length l.rest ≤ length l.bytes;
  read : (front : List ℕ) × (with_front front (numbers_at (l.count - l.counter) l.rest) ≡ numbers_at l.count l.bytes) × (l.left ≡ l.limit - taken front);
}
