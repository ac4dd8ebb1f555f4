-- Of private contracts.
-- Rows of flags: a set of indexes for each task.
use Rattle.std.specs.Prelude.{◌≡◌, ◌≢◌, ℕ, ◌+◌, ◌*◌, ◌/◌, ◌%◌, ◌^◌, ◌<◌, ◌≤◌, ◌⊎◌, ◌==◌, Bool, true, false, List, [], length, slice_index_or, Option, Some}
use Rattle.std.specs.Int.{bit_at}
use Rattle.qs_ranges.specs.Bits.{IsBefore}

-- whether a bit of a word is set
unfoldable pub on : ℕ → ℕ → Bool
on word bit = bit_at word bit == 1

-- the flags of 64 indexes
unfoldable pub word : List (List ℕ) → ℕ → ℕ → ℕ
word rows row place = slice_index_or (slice_index_or rows place []) row 0

-- whether an index has a flag: the one way in which a clause sees rows
unfoldable pub has : List (List ℕ) → ℕ → ℕ → Bool
has rows row i = on (word rows row (i / 64)) (i % 64)

-- one flag is set or cleared, all others are as they were
pub record IsTurned (old : List (List ℕ)) (row i : ℕ) (is_set : Bool) (new : List (List ℕ)) : Type 0 where
  pub here : has new row i ≡ is_set
  pub rows : (other j : ℕ) → other ≢ row → has new other j ≡ has old other j
  pub others : (j : ℕ) → j ≢ i → has new row j ≡ has old row j
  pub words : (other place : ℕ) → (other ≢ row) ⊎ (place ≢ i / 64) → word new other place ≡ word old other place
  pub len : length new ≡ length old

-- it is so where there is room for the flag, and where there is none nothing changes
pub record IsSetAt (old : List (List ℕ)) (row i : ℕ) (is_set : Bool) (new : List (List ℕ)) : Type 0 where
  pub there : i < 64 * length old → IsTurned old row i is_set new
  pub past : 64 * length old ≤ i → new ≡ old

-- room for more, and no flag moved
pub record IsRoomier (old new : List (List ℕ)) : Type 0 where
  pub flags : (row i : ℕ) → has new row i ≡ has old row i
  pub least : length old ≤ length new

-- a block more at most, and no flag moved
pub record IsLonger (old new : List (List ℕ)) : Type 0 where
  pub flags : (row i : ℕ) → has new row i ≡ has old row i
  pub words : (row place : ℕ) → word new row place ≡ word old row place
  pub least : length old ≤ length new
  pub most : length new ≤ length old + 1

-- the least index from one on
pub record IsNext (marked : ℕ → Bool) (from : ℕ) (answer : Option ℕ) : Type 0 where
  pub found : (n : ℕ) → answer ≡ Some n → (from ≤ n) × (marked n ≡ true)
  pub unmarked : (i : ℕ) → from ≤ i → IsBefore i answer → marked i ≡ false

-- each block has a word for each row
pub record AreBlocks (rows : List (List ℕ)) : Type 0 where
  pub each : (place : ℕ) → place < length rows → length (slice_index_or rows place []) ≡ 22
  pub few : length rows ≤ 2 ^ 56
