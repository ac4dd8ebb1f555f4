-- Of private contracts.
-- How much memory parts take, and what that is all together.
use Rattle.std.specs.Prelude.{◌≡◌, ℕ, ◌+◌, ◌-◌, ◌^◌, ◌≤◌, min, List, [], ◌∷◌}
use Rattle.qs_recv.specs.Lane.{RecvLane}
use Rattle.qs_send.specs.Lane.{SendLane}
use Rattle.qs_machine.specs.Tables.{Tables}
use Rattle.qs_machine.specs.Asking.{kept_on}
use Rattle.qs_machine.specs.Sums.{stored_on}
use Rattle.qs_conn.specs.Held.{least_held, most_held, most_buffered}

-- what the ring of a receiving half may take
pub record IsRoom (lane : RecvLane) (n : ℕ) : Type 0 where
  pub stored : stored_on lane ≤ n
  pub least : least_held lane ≤ n
  pub most : n ≤ most_held lane

-- what the buffer of a sending half may take
pub record IsBuffer (lane : SendLane) (n : ℕ) : Type 0 where
  pub kept : kept_on lane ≤ n
  pub most : n ≤ most_buffered lane

-- the sum of numbers, of which one belongs to each part, or the greatest number of 64 bits where that is less
unfoldable pub IsSumOf : {X : Type 0} → (X → ℕ → Type 0) → List X → ℕ → Type 0
IsSumOf R [] n = n ≡ 0
IsSumOf R (x ∷ xs) n = (m : ℕ) × (rest : ℕ) × R x m × IsSumOf R xs rest × (n ≡ min (m + rest) (2 ^ 64 - 1))

-- the four lists of a table
abbrev pub lists : {X : Type 0} → Tables X → List (List X)
lists t = t.client_bidi ∷ t.server_bidi ∷ t.client_uni ∷ t.server_uni ∷ []
