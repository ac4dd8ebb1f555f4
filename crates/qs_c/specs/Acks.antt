-- Of public contracts.
-- The ranges that C gives and is given. All of it is ours.
use Rattle.std.specs.Prelude.{◌≡◌, ℕ, ◌+◌, ◌^◌, ◌<◌, ◌≤◌, Bool, true, List, [], ◌∷◌, ◌++◌, length, take, drop, nat_eq, nat_lt, nat_le, ◌&&◌, MatchBool}
use Rattle.qs_wire.specs.Varint.{numbers_of}
use Rattle.qs_wire.specs.Layout.{ack_ranges_of}
use Rattle.qs_wire.specs.Grammar.{canonical}
use Rattle.qs_wire.specs.Acks.{ack_of}
use Rattle.qs_c.specs.declared.acks.GvRange.{GvRange}
use Rattle.qs_c.specs.Statuses.{Invalid, is_small}

-- the same numbers, half-open
abbrev pub pair_of : GvRange → ℕ × ℕ
pair_of r = (r.smallest, r.largest + 1)

-- each range has a number, and lies below `high` and the ranges before it, with a number between
abbrev pub are_apart : ℕ → List GvRange → Bool
are_apart high [] = true
are_apart high (r ∷ rs) = nat_le r.smallest r.largest && nat_lt (r.largest + 1) high && are_apart r.smallest rs

-- what an ACK is written of: 1 to 32 ranges of numbers below 2^62, the highest first
abbrev pub are_ranges : List GvRange → Bool
are_ranges rs = nat_lt 0 (length rs) && nat_le (length rs) 32 && are_apart (2 ^ 62 + 1) rs

-- What a call that writes an ACK writes: how many ranges, how many bytes, and these.
pub record AckOut : Type 0 where
  pub count : ℕ
  pub len : ℕ
  pub bytes : List ℕ

-- As many ranges as fit are written, and more would not fit.
pub record AckWritten (pairs : List (ℕ × ℕ)) (delay : ℕ) (old new : AckOut) : Type 0 where
  pub some : 0 < new.count
  pub among : new.count ≤ length pairs
  pub len : new.len ≡ length (canonical (ack_of delay (take new.count pairs)))
  pub fits : new.len ≤ length old.bytes
  pub bytes : new.bytes ≡ canonical (ack_of delay (take new.count pairs)) ++ drop new.len old.bytes
  pub most : (n : ℕ) → new.count < n → n ≤ length pairs → length old.bytes < length (canonical (ack_of delay (take n pairs)))

-- Where not even one range fits, none is written.
abbrev pub AckAnswer : List (ℕ × ℕ) → ℕ → ℕ → AckOut → AckOut → Type 0
AckAnswer pairs delay status old new =
    MatchBool (nat_eq status 0) (AckWritten pairs delay old new)
    ((status ≡ 22) × (length old.bytes < length (canonical (ack_of delay (take 1 pairs)))) × (new ≡ old))

-- What a walk over the ranges of an ACK writes: the largest number of those that are left, how many bytes were used up, and a range.
pub record RangeOut : Type 0 where
  pub largest : ℕ
  pub used : ℕ
  pub range : GvRange

-- Of the ranges that the bytes spell below a number the first is told, and those behind it are what is left; or there is none.
abbrev pub RangeStep : List (ℕ × ℕ) → List ℕ → ℕ → RangeOut → RangeOut → Type 0
RangeStep [] bytes status old new = (status ≡ 15) × (new ≡ old)
RangeStep (r ∷ rs) bytes status old new =
    (status ≡ 0) × (new.range ≡ record { smallest = r.0; largest = r.1 }) × (new.used ≤ length bytes) × (new.largest ≤ old.largest)
    × (ack_ranges_of new.largest (numbers_of (drop new.used bytes)) ≡ rs)

abbrev pub RangeAnswer : List ℕ → ℕ → RangeOut → RangeOut → Type 0
RangeAnswer bytes status old new =
    MatchBool (is_small old.largest) (RangeStep (ack_ranges_of old.largest (numbers_of bytes)) bytes status old new) (Invalid status old new)
