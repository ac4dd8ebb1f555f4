-- Of private contracts.
-- Records of packets in a list that rises by number, and what it holds as a map.
--     Numbered            a record
--     Listed              the records, and how many more there is memory for
--     lookup n rs         the record of number n
--     map_of rs           the pieces of each number
--     AreRising low rs    the numbers rise from `low` on, and each record has a piece
--     IsAt n rs k, IsGapAt n rs k      number n has its record at place k; it has none, and that is where it would go
--     IsCut n rs k        the first k records are those of numbers below n
--     room_for l n        for how many more pieces of number n there is memory
use Rattle.std.specs.Prelude.{◌≡◌, ℕ, zero, suc, ◌+◌, ◌<◌, ◌≤◌, List, [], ◌∷◌, length, nat_eq, if◌then◌else◌, Option, None, Some, refl}
use Rattle.std.specs.FinMap as fmap
use Rattle.std.specs.Coded.{Coded, code_by, coded×, coded_ℕ, coded_list}
use Rattle.qs_send.specs.declared.piece.Piece.{Piece}
use Rattle.qs_send.specs.PieceCodes.{piece_code}
use Rattle.qs_send.specs.Records.{PacketPieces}

-- the pieces of a packet, and how many more there is memory for
pub record Numbered : Type 0 where
  pub number : ℕ
  pub pieces : List Piece
  pub spare : ℕ

abbrev pub numbered_code : Coded Numbered
numbered_code =
    code_by (ℕ × (List Piece × ℕ)) (coded× coded_ℕ (coded× (coded_list piece_code) coded_ℕ)) (λ r. (r.number, (r.pieces, r.spare)))
    (λ p. record { number = p.0; pieces = p.1.0; spare = p.1.1 })
    (λ _. refl)

-- the records of packets, and how many more of one piece there is memory for
pub record Listed : Type 0 where
  pub records : List Numbered
  pub spare : ℕ

abbrev pub listed_code : Coded Listed
listed_code = code_by (List Numbered × ℕ) (coded× (coded_list numbered_code) coded_ℕ) (λ l. (l.records, l.spare)) (λ p. record { records = p.0; spare = p.1 }) (λ _. refl)

-- the record of a number
abbrev pub lookup : ℕ → List Numbered → Option Numbered
lookup n [] = None
lookup n (r ∷ rs) = if nat_eq n r.number then Some r else lookup n rs

-- the pieces of each number
abbrev pub map_of : List Numbered → PacketPieces
map_of [] = fmap.empty
map_of (r ∷ rs) = fmap.insert (map_of rs) r.number r.pieces

-- the numbers rise from `low` on, and each record has a piece
abbrev pub AreRising : ℕ → List Numbered → Type 0
AreRising low [] = Unit {0}
AreRising low (r ∷ rs) = (low ≤ r.number) × (0 < length r.pieces) × AreRising (r.number + 1) rs

-- number n has its record at a place
abbrev pub IsAt : ℕ → List Numbered → ℕ → Type 0
IsAt n [] k = ⊥
IsAt n (r ∷ rs) zero = n ≡ r.number
IsAt n (r ∷ rs) (suc k) = (r.number < n) × IsAt n rs k

-- number n has no record, and its place would be this one
abbrev pub IsGapAt : ℕ → List Numbered → ℕ → Type 0
IsGapAt n [] zero = Unit {0}
IsGapAt n [] (suc k) = ⊥
IsGapAt n (r ∷ rs) zero = n < r.number
IsGapAt n (r ∷ rs) (suc k) = (r.number < n) × IsGapAt n rs k

-- the first k records are those of numbers below n
abbrev pub IsCut : ℕ → List Numbered → ℕ → Type 0
IsCut n [] zero = Unit {0}
IsCut n [] (suc k) = ⊥
IsCut n (r ∷ rs) zero = n ≤ r.number
IsCut n (r ∷ rs) (suc k) = (r.number < n) × IsCut n rs k

-- for how many more pieces a record has memory, and for how many a new one would have it
abbrev pub spare_in : ℕ → Option Numbered → ℕ
spare_in new None = new
spare_in new (Some r) = r.spare

-- for how many more pieces of a number there is memory
abbrev pub room_for : Listed → ℕ → ℕ
room_for l n = spare_in l.spare (lookup n l.records)
