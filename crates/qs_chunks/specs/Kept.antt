-- Of private contracts.
-- What holds of a chunk assembly's fields at all times.
use Rattle.std.specs.Prelude.{◌≡◌, ℕ, ◌<◌, ◌≤◌, Bool, true, false, List}
use Rattle.std.specs.FinMap as map
use Rattle.std.specs.FinSet as set
use Rattle.qs_chunks.specs.Chunks.{Piece, IsOrdered, stored_in, total}
use Rattle.qs_ranges.specs.Numbers.{NumberSet, MAX_VARINT}

-- the chunks lie in order past what was read; what is stored came, and what was read came; and until bytes are thrown away, what came and
-- wasn't read is stored
pub record IsKept (chunks : List Piece) (received : NumberSet) (read_count stored : ℕ) (discarding : Bool) : Type 0 where
  pub ordered : IsOrdered read_count chunks
  pub came : (q : ℕ) → map.contains_key (stored_in chunks) q ≡ true → set.contains received q ≡ true
  pub read_came : (q : ℕ) → q < read_count → set.contains received q ≡ true
  pub kept : discarding ≡ false → (q : ℕ) → read_count ≤ q → set.contains received q ≡ true → map.contains_key (stored_in chunks) q ≡ true
  pub small : (q : ℕ) → map.contains_key (stored_in chunks) q ≡ true → q < MAX_VARINT
  pub counted : stored ≡ total chunks
