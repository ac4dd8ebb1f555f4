-- Of private contracts.
-- A flag for each index, kept as bits of words of 64.
use Rattle.std.specs.Prelude.{◌≡◌, ℕ, ◌+◌, ◌*◌, ◌/◌, ◌%◌, ◌^◌, ◌<◌, ◌≤◌, ◌==◌, Bool, false, List, length, map, slice_index}
use Rattle.std.specs.List.{range_with_len}
use Rattle.std.specs.Int.{bit_at}
use Rattle.qs_conn.specs.Marks.{is_marked}

-- the flag of an index: past the words none is set
abbrev pub flag : List ℕ → ℕ → Bool
flag words i = bit_at (slice_index words (i / 64)) (i % 64) == 1

-- the flags of the indexes below a count
abbrev pub flags : List ℕ → ℕ → List Bool
flags words count = map (flag words) (range_with_len 0 count)

-- a word has the marks of its 64 indexes
pub record IsWordOf (marks : List Bool) (place word : ℕ) : Type 0 where
  pub bits : (i : ℕ) → i < 64 → (bit_at word i == 1) ≡ is_marked marks (place * 64 + i)

-- There is a word for each flag and at most one word more, and no flag from the count on is set.
pub record AreFlags (words : List ℕ) (count : ℕ) : Type 0 where
  pub room : count ≤ 64 * length words
  pub tight : 64 * length words ≤ count + 64
  pub fits : count < 2 ^ 64
  pub unset : (i : ℕ) → count ≤ i → flag words i ≡ false
