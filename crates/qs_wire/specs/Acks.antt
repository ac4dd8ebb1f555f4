-- Of public contracts.
-- The ACK frames that this crate makes, of half-open ranges of packet numbers, the highest first.
use Rattle.std.specs.Prelude.{ℕ, ◌+◌, ◌-◌, ◌^◌, ◌<◌, ◌≤◌, List, [], ◌∷◌, length, None}
use Rattle.qs_wire.specs.Layout.{FrameValue, ack, ack_ranges_of}

-- the half-open range has a number, and one lies between it and what begins at `above`
pub record LiesBelow (above : ℕ) (p : ℕ × ℕ) : Type 0 where
  pub below : p.1 < above
  pub some : p.0 < p.1

-- each range has a number, and lies below `high` and the ranges before it, with a number between
abbrev pub AreApartBelow : ℕ → List (ℕ × ℕ) → Type 0
AreApartBelow high [] = Unit {0}
AreApartBelow high (p ∷ ps) = (p.1 < high) × (p.0 < p.1) × AreApartBelow p.0 ps

-- what an ACK can be made of: 1 to 32 ranges of numbers below 2^62
pub record AreAckPairs (pairs : List (ℕ × ℕ)) : Type 0 where
  pub some : 0 < length pairs
  pub few : length pairs ≤ 32
  pub apart : AreApartBelow (2 ^ 62 + 1) pairs

-- of each range the gap to the smallest number above it, and its length (RFC 9000, section 19.3.1)
abbrev pub gaps_below : ℕ → List (ℕ × ℕ) → List ℕ
gaps_below smallest [] = []
gaps_below smallest (p ∷ ps) = ((smallest - p.1) - 1) ∷ ((p.1 - 1) - p.0) ∷ gaps_below p.0 ps

-- the ACK of the ranges that tells this delay, without ECN counts (RFC 9000, section 19.3)
abbrev pub ack_of : ℕ → List (ℕ × ℕ) → FrameValue
ack_of delay [] = ack 0 delay [] None
ack_of delay (p ∷ ps) = ack (p.1 - 1) delay (((p.1 - 1) - p.0) ∷ gaps_below p.0 ps) None

-- each range has a number, and its largest is at least 2 below `high` and below each range before it
abbrev pub FallBelow : ℕ → List (ℕ × ℕ) → Type 0
FallBelow high [] = Unit {0}
FallBelow high (r ∷ rs) = (r.1 + 1 < high) × (r.0 ≤ r.1) × FallBelow r.0 rs

-- a half-open range by its smallest and largest number
abbrev pub inclusive : ℕ × ℕ → ℕ × ℕ
inclusive p = (p.0, p.1 - 1)

-- the ranges that a frame acknowledges
abbrev pub ack_pairs : FrameValue → List (ℕ × ℕ)
ack_pairs (ack largest delay ranges ecn) = ack_ranges_of largest ranges
ack_pairs _ = []
