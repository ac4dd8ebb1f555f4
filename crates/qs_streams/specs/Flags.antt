-- Of private contracts.
-- Which streams have a task: rows of flags for each type of stream.
use Rattle.std.specs.Prelude.{◌≡◌, ◌≢◌, ℕ, ◌*◌, ◌<◌, ◌⊎◌, Bool, true, List, length, Option, None, Some, min}
use Rattle.qs_machine.specs.Tables.{Tables, table, type_of, index_of}
use Rattle.qs_streams.specs.Rows.{has}

-- whether a stream has a flag in a row
unfoldable pub flag : Tables (List ℕ) → ℕ → ℕ → Bool
flag rows row n = has (table rows (type_of n)) row (index_of n)

-- there is a place for a stream's flags
unfoldable pub HasPlace : Tables (List ℕ) → ℕ → Type 0
HasPlace rows n = index_of n < 64 * length (table rows (type_of n))

-- one flag is set or cleared, and all others are as they were
pub record IsFlagged (old : Tables (List ℕ)) (row n : ℕ) (is_set : Bool) (new : Tables (List ℕ)) : Type 0 where
  pub here : flag new row n ≡ is_set
  pub others : (u m : ℕ) → (u ≢ row) ⊎ (m ≢ n) → flag new u m ≡ flag old u m
  pub places : (m : ℕ) → HasPlace old m → HasPlace new m

-- it is so where there is a place for the flag, and where there is none nothing changes
pub record IsFlaggedAt (old : Tables (List ℕ)) (row n : ℕ) (is_set : Bool) (new : Tables (List ℕ)) : Type 0 where
  pub there : HasPlace old n → IsFlagged old row n is_set new
  pub none : (HasPlace old n → ⊥) → new ≡ old

-- no flag of another row moved, and no place went
pub record MovesRow (row : ℕ) (old new : Tables (List ℕ)) : Type 0 where
  pub rows : (u m : ℕ) → u ≢ row → flag new u m ≡ flag old u m
  pub places : (m : ℕ) → HasPlace old m → HasPlace new m

-- no flag moved, and no place went
pub record HasMorePlaces (old new : Tables (List ℕ)) : Type 0 where
  pub flags : (u m : ℕ) → flag new u m ≡ flag old u m
  pub places : (m : ℕ) → HasPlace old m → HasPlace new m

-- the lesser of two answers
abbrev pub least_of : Option ℕ → Option ℕ → Option ℕ
least_of None b = b
least_of (Some a) None = Some a
least_of (Some a) (Some b) = Some (min a b)

-- a stream of a type has a flag in a row
abbrev pub IsFlaggedOf : List (List ℕ) → ℕ → ℕ → ℕ → Type 0
IsFlaggedOf rows row kind n = (type_of n ≡ kind) × (has rows row (index_of n) ≡ true)
