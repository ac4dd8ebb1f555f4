-- Of public contracts.
-- Bits of a word of 64.
use Rattle.std.specs.Prelude.{◌≡◌, ◌≢◌, ℕ, ◌≤◌, ◌<◌, ◌==◌, Bool, Option, None, Some, ⊤}
use Rattle.std.specs.Int.{bit_at}

-- one bit of a word is set or not, the others are as they were
pub record HasBit (before bit : ℕ) (is_set : Bool) (after : ℕ) : Type 0 where
  pub here : (bit_at after bit == 1) ≡ is_set
  pub others : (i : ℕ) → i < 64 → i ≢ bit → bit_at after i ≡ bit_at before i

-- the number comes before the answer
abbrev pub IsBefore : ℕ → Option ℕ → Type 0
IsBefore i None = ⊤
IsBefore i (Some n) = i < n

-- the least bit of a word that is set, from one on
pub record IsLowestBit (word from : ℕ) (answer : Option ℕ) : Type 0 where
  pub found : (n : ℕ) → answer ≡ Some n → (from ≤ n) × (n < 64) × (bit_at word n ≡ 1)
  pub clear : (i : ℕ) → from ≤ i → i < 64 → IsBefore i answer → bit_at word i ≡ 0
