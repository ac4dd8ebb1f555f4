-- Of public contracts.
-- In which order a packet takes what is due, so that nothing is left out under what comes after it (ours, for the whole file: RFC 9000,
-- section 13, leaves the order open).
use Rattle.std.specs.Prelude.{◌≡◌, ℕ, ◌<◌, true, false, List, [], ◌∷◌, ◌++◌, ◌⊎◌, Option, None, Some, Result, Ok, Err}
use Rattle.qs_send.specs.PieceCodes.{dir_number}
use Rattle.qs_send.specs.declared.piece.Item.{Item}
use Rattle.qs_send.specs.declared.piece.Item.TheVariants.{MaxData, MaxStreamData, MaxStreams, ResetStream, StopSending, DataBlocked, StreamDataBlocked, StreamsBlocked}
use Rattle.qs_send.specs.declared.piece.Piece.{Piece}
use Rattle.qs_send.specs.declared.piece.Piece.TheVariants.{Data, Told}
use Rattle.qs_calls.specs.declared.filling.Fill.{Fill}
use Rattle.qs_calls.specs.declared.filling.Filled.{Filled}
use Rattle.qs_calls.specs.declared.making.Made.{Made}
use Rattle.qs_calls.specs.declared.making.MakeFault.{MakeFault}
use Rattle.qs_machine.specs.Ends.{End}
use Rattle.qs_machine.specs.Due.{Among, IsDueItem}
use Rattle.qs_machine.specs.Lawful.{pieces_so_far}

-- an item's kind, and its stream or direction
abbrev pub item_place : Item → ℕ × ℕ
item_place (MaxData m) = (0, 0)
item_place (MaxStreams d m) = (1, dir_number d)
item_place (ResetStream n code size) = (2, n)
item_place (StopSending n code) = (3, n)
item_place (MaxStreamData n m) = (4, n)
item_place (DataBlocked m) = (5, 0)
item_place (StreamDataBlocked n m) = (6, n)
item_place (StreamsBlocked d m) = (7, dir_number d)

-- a packet takes kind by kind, and within a kind lower streams first, and bidirectional ones before unidirectional ones
abbrev pub IsLower : ℕ × ℕ → ℕ × ℕ → Type 0
IsLower a b = (a.0 < b.0) ⊎ ((a.0 ≡ b.0) × (a.1 < b.1))

-- A piece comes next only where no item is left out that was due as the packet began and comes before it. Every item comes before bytes of
-- streams.
abbrev pub LeavesNoneOut : End → List Piece → Piece → Type 0
LeavesNoneOut old before (Told i) = (j : Item) → IsDueItem old j → IsLower (item_place j) (item_place i) → Among (Told j) before
LeavesNoneOut old before (Data n c) = (j : Item) → IsDueItem old j → Among (Told j) before

-- so does each of these pieces, behind those before
abbrev pub AreInOrder : End → (before pieces : List Piece) → Type 0
AreInOrder old before [] = Unit {0}
AreInOrder old before (p ∷ ps) = LeavesNoneOut old before p × AreInOrder old (before ++ p ∷ []) ps

-- Nothing starves: a packet that was made leaves no ACK due, and what its record holds is in order.
abbrev pub NothingStarves : End → Result (Option Made) MakeFault → End → Type 0
NothingStarves old (Ok (Some made)) new = (new.ack_due ≡ false) × AreInOrder old [] (pieces_so_far new made.number)
NothingStarves old (Ok None) new = Unit {0}
NothingStarves old (Err fault) new = Unit {0}

-- No item starves that was asked for: what was filled in is in order, where items were.
abbrev pub NoItemStarves : Fill → End → Result (Option Filled) MakeFault → End → Type 0
NoItemStarves want old (Ok (Some filled)) new = want.items ≡ true → AreInOrder old [] (pieces_so_far new filled.token.number)
NoItemStarves want old (Ok None) new = Unit {0}
NoItemStarves want old (Err fault) new = Unit {0}
