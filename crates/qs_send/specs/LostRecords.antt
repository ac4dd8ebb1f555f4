-- Trusted.
-- What the packets carried that were declared lost, of which the latest stay (RFC 9000, section 13.3, for the whole file).
--     Lost            the pieces of the packets, the order of their declaring, and for which number there is room
--     IsOrderOf m order      the order has exactly the numbers that are held
--     with_piece, with_number      a packet with one piece more, and the order with its number
--     latest, without_oldest       the order and the pieces without the oldest packet, where there is one too many
--     without_number               the order without a number
use Rattle.std.specs.Prelude.{◌≡◌, ℕ, ◌≤◌, ◌↔◌, Bool, true, false, List, [], ◌∷◌, ◌++◌, length, nat_eq, leb, if◌then◌else◌, Option, None, Some}
use Rattle.std.specs.FinMap as fmap
use Rattle.qs_send.specs.declared.piece.Piece.{Piece}
use Rattle.qs_send.specs.Records.{PacketPieces, NoneEmpty, Among}

-- The pieces of the packets; their numbers, the one first that was declared lost first; and the number for which there is room
-- for one piece more.
pub record Lost : Type 0 where
  pub pieces : PacketPieces
  pub order : List ℕ
  pub room : Option ℕ

-- so many lost packets stay
abbrev pub MOST_LOST : ℕ
MOST_LOST = 256

-- each number comes once
abbrev pub AreApart : List ℕ → Type 0
AreApart [] = Unit {0}
AreApart (k ∷ ks) = (Among k ks → ⊥) × AreApart ks

-- the order has the numbers that are held, each once, and not too many
pub record IsOrderOf (m : PacketPieces) (order : List ℕ) : Type 0 where
  pub same : (k : ℕ) → Among k order ↔ (fmap.contains_key m k ≡ true)
  pub once : AreApart order
  pub few : length order ≤ MOST_LOST
  pub none_empty : NoneEmpty m

-- a packet with one piece more, behind those that it has
abbrev pub with_piece : PacketPieces → ℕ → Piece → Option (List Piece) → PacketPieces
with_piece m n p None = fmap.insert m n (p ∷ [])
with_piece m n p (Some ps) = fmap.insert m n (ps ++ p ∷ [])

-- the order with a number behind it, if it isn't held
abbrev pub with_number : List ℕ → ℕ → Bool → List ℕ
with_number order n true = order
with_number order n false = order ++ n ∷ []

-- the order without the oldest number, where there is one too many
abbrev pub latest : List ℕ → List ℕ
latest [] = []
latest (k ∷ ks) = if leb MOST_LOST (length ks) then ks else k ∷ ks

-- the pieces without those of the oldest number, where there is one too many
abbrev pub without_oldest : PacketPieces → List ℕ → PacketPieces
without_oldest m [] = m
without_oldest m (k ∷ ks) = if leb MOST_LOST (length ks) then fmap.remove m k else m

-- the order without a number
abbrev pub without_number : List ℕ → ℕ → List ℕ
without_number [] n = []
without_number (k ∷ ks) n = if nat_eq k n then without_number ks n else k ∷ without_number ks n
