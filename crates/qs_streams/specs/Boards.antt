-- Of private contracts.
-- What a board keeps beside its flags.
use Rattle.std.specs.Prelude.{◌≡◌, ℕ, ◌+◌, ◌*◌, ◌^◌, ◌<◌, ◌≤◌, Bool, false, List, length, zero, suc, slice_index_or, nat_lt, if◌then◌else◌}
use Rattle.qs_streams.specs.Rows.{has, on, word}

abbrev pub one_if : Bool → ℕ
one_if b = if b then 1 else 0

-- how many of the numbers below one are marked
abbrev pub card : (ℕ → Bool) → ℕ → ℕ
card marked zero = 0
card marked (suc n) = card marked n + one_if (marked n)

-- A flag on top stands for a block that has one. It is counted which blocks those are, and none lies below a place.
pub record IsBoard (blocks tops : List (List ℕ)) (counts least : List ℕ) (some : ℕ) : Type 0 where
  pub summed : (row place : ℕ) → has tops row place ≡ nat_lt 0 (word blocks row place)
  pub room : length blocks ≤ 64 * length tops
  pub tight : 64 * length tops ≤ length blocks + 64
  pub few : length blocks < 2 ^ 26
  pub rows : (length counts ≡ 22) × (length least ≡ 22)
  pub counted : (row : ℕ) → row < 22 → slice_index_or counts row 0 ≡ card (has tops row) (64 * length tops)
  pub low : (row place : ℕ) → row < 22 → place < slice_index_or least row 0 → has tops row place ≡ false
  pub any : (row : ℕ) → row < 22 → on some row ≡ nat_lt 0 (slice_index_or counts row 0)

-- no index of these blocks is marked
pub record ArePassed (rows : List (List ℕ)) (row from to : ℕ) : Type 0 where
  pub none : (place : ℕ) → from ≤ place → place < to → word rows row place ≡ 0
