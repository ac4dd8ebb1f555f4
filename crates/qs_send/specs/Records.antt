-- Trusted.
-- What the outstanding packets carried, by packet number (RFC 9000, section 13.3, for the whole file).
--     Recorded      the pieces of the packets; which numbers have slots; and below which number there is room
--     without_first, first_piece      a packet without its first piece, and that piece
--     IsCarried m p      some packet has the piece
--     AreBelow m n, IsGreatest m k, IsGreatestBelow m n k      where the held numbers lie
use Rattle.std.specs.Prelude.{◌≡◌, ℕ, zero, suc, ◌+◌, ◌<◌, ◌≤◌, true, List, [], ◌∷◌, slice_index_or, Option, None, Some, ◌⊎◌}
use Rattle.std.specs.Ordering.{nat_cmp}
use Rattle.std.specs.FinMap as fmap
use Rattle.qs_send.specs.declared.piece.Piece.{Piece}

-- the pieces of packets, by packet number
abbrev pub PacketPieces : Type 0
PacketPieces = fmap.FinMap nat_cmp (List Piece)

-- The pieces of the packets. The numbers from `base` on have slots, so many; and for numbers below `room` there is memory.
pub record Recorded : Type 0 where
  pub pieces : PacketPieces
  pub base : ℕ
  pub slots : ℕ
  pub room : ℕ

-- the record of a packet without its first piece
abbrev pub without_first : PacketPieces → ℕ → Option (List Piece) → PacketPieces
without_first records k None = records
without_first records k (Some []) = fmap.remove records k
without_first records k (Some (p ∷ [])) = fmap.remove records k
without_first records k (Some (p ∷ q ∷ ps)) = fmap.insert records k (q ∷ ps)

-- the piece of a packet that was put in first
abbrev pub first_piece : Option (List Piece) → Option Piece
first_piece None = None
first_piece (Some []) = None
first_piece (Some (p ∷ ps)) = Some p

-- x is an element of the list
abbrev pub Among : {X : Type 0} → X → List X → Type 0
Among x [] = ⊥
Among x (y ∷ ys) = (x ≡ y) ⊎ Among x ys

-- some packet carried the piece
abbrev pub IsCarried : PacketPieces → Piece → Type 0
IsCarried m p = (k : ℕ) × (ps : List Piece) × (fmap.get m k ≡ Some ps) × Among p ps

-- each packet has a piece
abbrev pub NoneEmpty : PacketPieces → Type 0
NoneEmpty m = (k : ℕ) → fmap.get m k ≡ Some [] → ⊥

-- every number that is held is below n
abbrev pub AreBelow : PacketPieces → ℕ → Type 0
AreBelow m n = (k : ℕ) → fmap.contains_key m k ≡ true → k < n

-- the greatest number that is held
pub record IsGreatest (m : PacketPieces) (k : ℕ) : Type 0 where
  pub held : fmap.contains_key m k ≡ true
  pub greatest : (j : ℕ) → fmap.contains_key m j ≡ true → j ≤ k

-- the greatest number below n that is held
pub record IsGreatestBelow (m : PacketPieces) (n k : ℕ) : Type 0 where
  pub held : fmap.contains_key m k ≡ true
  pub below : k < n
  pub greatest : (j : ℕ) → fmap.contains_key m j ≡ true → j < n → j ≤ k

-- the pieces in the slot at a place
abbrev pub slot_at : List (List Piece) → ℕ → List Piece
slot_at slots k = slice_index_or slots k []

-- the map of the packets in slots, of which the first is that of number `base`; a slot with no piece is empty
abbrev pub packets_of : ℕ → List (List Piece) → PacketPieces
packets_of base [] = fmap.empty
packets_of base ([] ∷ slots) = packets_of (base + 1) slots
packets_of base ((p ∷ ps) ∷ slots) = fmap.insert (packets_of (base + 1) slots) base (p ∷ ps)

-- packets with one more, where it has pieces
abbrev pub with_record : PacketPieces → ℕ → List Piece → PacketPieces
with_record m n [] = m
with_record m n (p ∷ ps) = fmap.insert m n (p ∷ ps)

-- the number below which slots from `base` on fit a memory of so many
abbrev pub room_end : ℕ → ℕ → ℕ
room_end base zero = 0
room_end base (suc n) = base + suc n

-- number n has slot k
pub record IsSlotOf (base slots n k : ℕ) : Type 0 where
  pub within : k < slots
  pub number : base + k ≡ n
