-- Of private contracts.
-- The buffer of a sending half: the bytes that are kept in it, and how many bytes of memory it takes.
use Rattle.std.specs.Prelude.{◌≡◌, ℕ, ◌-◌, ◌≤◌, Bool, true, if◌then◌else◌, nat_lt, List, ◌++◌, length, take, drop, Option, is_some, refl}
use Rattle.std.specs.Coded.{Coded, code_by, coded×, coded_ℕ, coded_list}
use Rattle.qs_send.specs.declared.parts.Reset.{Reset}

pub record KeptBytes : Type 0 where
  pub bytes : List ℕ
  pub room : ℕ

abbrev pub kept_code : Coded KeptBytes
kept_code = code_by (List ℕ × ℕ) (coded× (coded_list coded_ℕ) coded_ℕ) (λ k. (k.bytes, k.room)) (λ p. record { bytes = p.0; room = p.1 }) (λ _. refl)

-- so many bytes of a ring: read on from `start`, and around from the front
abbrev pub around : ℕ → ℕ → List ℕ → List ℕ
around start count ring = take count (drop start ring ++ ring)

-- where in a ring of so many places the byte stands that is so many past the front
abbrev pub place_in : ℕ → ℕ → ℕ
place_in size at = if nat_lt at size then at else at - size

-- of a ring with so many places: the first byte stands at one of them, the bytes have room, where nothing is kept it is small, and
-- one without a place takes no memory
pub record IsRing (start count size memory : ℕ) : Type 0 where
  pub begins : start ≤ size
  pub within : count ≤ size
  pub idle : count ≡ 0 → size ≤ 4096
  pub none : size ≡ 0 → memory ≡ 0

-- a buffer out of which nothing is sent any more takes no memory: after a reset, and once all that was written and the end were
-- acknowledged
pub record IsFreed (was_reset : Option Reset) (fin_acked : Bool) (kept : List ℕ) (room : ℕ) : Type 0 where
  pub reset : is_some was_reset ≡ true → room ≡ 0
  pub whole : fin_acked ≡ true → length kept ≡ 0 → room ≡ 0
