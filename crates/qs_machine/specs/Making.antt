-- Trusted.
-- Packets that are made, packets that are lost, and the payload that tells of a closing (RFC 9000, sections 10.2.3, 12.3 and 13.3).
use Rattle.std.specs.Prelude.{◌≡◌, ℕ, ◌+◌, ◌<◌, ◌≤◌, List, [], ◌∷◌, ◌++◌, length, take, drop, ◌⊎◌, false, Option, None, Some, is_some, is_none, Result, Ok, Err, nat_le, MatchBool}
use Rattle.std.specs.List.{AllByRecursion}
use Rattle.std.specs.FinMap as fmap
use Rattle.qs_ranges.specs.Numbers.{MAX_VARINT}
use Rattle.qs_wire.specs.Layout.{FrameValue, ack, ack_ranges_of, connection_close}
use Rattle.qs_wire.specs.Grammar.{Fits, canonical, canonical_all}
use Rattle.qs_send.specs.declared.piece.Piece.{Piece}
use Rattle.qs_send.specs.Records.{without_first}
use Rattle.qs_calls.specs.declared.closing.Closed.{Closed}
use Rattle.qs_calls.specs.declared.closing.Closed.TheVariants.{ByUs, ByPeer, Noted}
use Rattle.qs_calls.specs.declared.making.Made.{Made}
use Rattle.qs_calls.specs.declared.making.MakeFault.{MakeFault}
use Rattle.qs_calls.specs.declared.making.MakeFault.TheVariants as making
use Rattle.qs_calls.specs.declared.making.LostFault.{LostFault}
use Rattle.qs_calls.specs.declared.making.LostFault.TheVariants as losing
use Rattle.qs_machine.specs.Ends.{End, lost_with}
use Rattle.qs_machine.specs.Credit.{settle}
use Rattle.qs_machine.specs.Seen.{Ack, seen, seen_all, any_asks}
use Rattle.qs_machine.specs.Due.{Sendable}
use Rattle.qs_machine.specs.Lawful.{MayAck, Lawful, NamesAll, HasAll, AreInTurn}
use Rattle.qs_machine.specs.Owner.{Certain, first_refusal, refuse_if}

-- an ACK tells this delay and no ECN counts (RFC 9000, section 19.3)
abbrev pub IsPlainAck : ℕ → FrameValue → Type 0
IsPlainAck delay (ack largest ack_delay ranges ecn) = (ack_delay ≡ delay) × (ecn ≡ None)
IsPlainAck delay frame = Unit {0}

-- the bytes are the canonical text of these frames, whose ACKs tell this delay (RFC 9000, section 12.4)
pub record IsText (delay : ℕ) (frames : List FrameValue) (text : List ℕ) : Type 0 where
  pub fits : AllByRecursion Fits frames
  pub plain : AllByRecursion (IsPlainAck delay) frames
  pub canonical : text ≡ canonical_all frames

-- An ACK that names the next run too, by one Gap and one ACK Range Length more, is longer than the room (RFC 9000, section 19.3.1).
pub record NextIsTooLong (old : End) (delay room largest : ℕ) (ranges : List ℕ) : Type 0 where
  pub gap : ℕ
  pub len : ℕ
  pub fits : Fits (ack largest delay (ranges ++ gap ∷ len ∷ []) None)
  pub may : MayAck old old largest (ack_ranges_of largest (ranges ++ gap ∷ len ∷ []))
  pub too_long : room < length (canonical (ack largest delay (ranges ++ gap ∷ len ∷ []) None))

-- an ACK names all kept numbers, or no run more fits the room (RFC 9000, section 13.2.3)
abbrev pub NamesMost : End → (delay room : ℕ) → FrameValue → Type 0
NamesMost old delay room (ack largest ack_delay ranges ecn) = NamesAll old (ack_ranges_of largest ranges) ⊎ NextIsTooLong old delay room largest ranges
NamesMost old delay room frame = Unit {0}

-- A packet of the next number was made: the canonical text of a lawful packet that fits the room and leaves nothing out that it had room
-- for (RFC 9000, section 12.3). Bytes of streams go in by turns that begin at `first`.
pub record IsMade (old : End) (first delay room : ℕ) (made : Made) (text : List ℕ) (new : End) : Type 0 where
  pub number : made.number ≡ old.next
  pub len : made.len ≡ length text
  pub fits : length text ≤ room
  pub frames : List FrameValue
  pub asks : made.is_ack_eliciting ≡ any_asks (seen_all frames)
  pub spells : IsText delay frames text
  pub mid : End
  pub lawful : Lawful old (seen_all frames) mid
  pub acks : AllByRecursion (NamesMost old delay room) frames
  pub turn : AreInTurn first old (seen_all frames)
  pub whole : HasAll room (length text) old (seen_all frames) mid
  pub after : new ≡ settle mid

-- a packet was made, or there was nothing that may go, or there was and memory was refused (RFC 9000, section 12.3)
abbrev pub MakeBy : End → (first delay room : ℕ) → Result (Option Made) MakeFault → List ℕ → End → Type 0
MakeBy old first delay room (Ok (Some made)) text new = IsMade old first delay room made text new
MakeBy old first delay room (Ok None) text new = (Sendable old → ⊥) × (text ≡ []) × (new ≡ old)
MakeBy old first delay room (Err making.NoMemory) text new = Sendable old × (text ≡ []) × (new ≡ old)
MakeBy old first delay room (Err fault) text new = ⊥

-- an end that closed makes no packet, and one that used the last number none either (RFC 9000, sections 10.2 and 12.3)
abbrev pub make_refusal : End → Option MakeFault
make_refusal e = first_refusal (refuse_if (is_some e.closed) making.Closed) (refuse_if (nat_le (MAX_VARINT + 1) e.next) making.Exhausted)

-- the refusal, or what else comes of it (RFC 9000, sections 10.2 and 12.3)
abbrev pub MakeAt : Option MakeFault → End → (first delay room : ℕ) → Result (Option Made) MakeFault → List ℕ → End → Type 0
MakeAt (Some fault) old first delay room answer text new = (answer ≡ Err fault) × (text ≡ []) × (new ≡ old)
MakeAt None old first delay room answer text new = MakeBy old first delay room answer text new

-- `make_packet_from` into a slice of that size, with the payload that it writes (RFC 9000, section 12.3); `make_packet` is that from
-- stream 0 on with a delay of 0
abbrev pub MakeStep : End → (first delay room : ℕ) → Result (Option Made) MakeFault → List ℕ → End → Type 0
MakeStep old first delay room answer text new = MakeAt (make_refusal old) old first delay room answer text new

-- A packet of the next number was made that holds an ACK alone (RFC 9000, section 13.2, and RFC 9002, section 7).
pub record IsAckMade (old : End) (delay room : ℕ) (made : Made) (text : List ℕ) (new : End) : Type 0 where
  pub number : made.number ≡ old.next
  pub len : made.len ≡ length text
  pub fits : length text ≤ room
  pub asks : made.is_ack_eliciting ≡ false
  pub frame : FrameValue
  pub spells : IsText delay (frame ∷ []) text
  pub most : NamesMost old delay room frame
  pub largest : ℕ
  pub ranges : List (ℕ × ℕ)
  pub is : seen frame ≡ Ack largest ranges
  pub mid : End
  pub lawful : Lawful old (Ack largest ranges ∷ []) mid
  pub after : new ≡ settle mid

-- a packet was made where an ACK was due (RFC 9000, section 13.2)
abbrev pub MakeAckBy : End → (delay room : ℕ) → Result (Option Made) MakeFault → List ℕ → End → Type 0
MakeAckBy old delay room (Ok (Some made)) text new = IsAckMade old delay room made text new
MakeAckBy old delay room (Ok None) text new = (old.ack_due ≡ false) × (text ≡ []) × (new ≡ old)
MakeAckBy old delay room (Err fault) text new = ⊥

-- the refusal, or what else comes of it (RFC 9000, sections 10.2 and 12.3)
abbrev pub MakeAckAt : Option MakeFault → End → (delay room : ℕ) → Result (Option Made) MakeFault → List ℕ → End → Type 0
MakeAckAt (Some fault) old delay room answer text new = (answer ≡ Err fault) × (text ≡ []) × (new ≡ old)
MakeAckAt None old delay room answer text new = MakeAckBy old delay room answer text new

-- `make_ack` into a slice of that size, with the payload that it writes (RFC 9000, section 13.2, and RFC 9002, section 7)
abbrev pub MakeAckStep : End → (delay room : ℕ) → Result (Option Made) MakeFault → List ℕ → End → Type 0
MakeAckStep old delay room answer text new = MakeAckAt (make_refusal old) old delay room answer text new

-- Numbers that the layer beneath claims (RFC 9000, section 12.3)

-- an end that used the last number has none to give; one that closed does, since its CONNECTION_CLOSE goes in a packet (RFC 9000, sections
-- 10.2.3 and 12.3)
abbrev pub claim_refusal : End → Option MakeFault
claim_refusal e = refuse_if (nat_le (MAX_VARINT + 1) e.next) making.Exhausted

-- The layer beneath uses the next number up for a packet of its own, of which the end records nothing (RFC 9000, section 12.3).
abbrev pub ClaimStep : End → Result ℕ MakeFault → End → Type 0
ClaimStep old answer new = Certain (claim_refusal old) old answer new ((answer ≡ Ok old.next) × (new ≡ record old { next = old.next + 1 }))

-- Losses (RFC 9000, section 13.3)

-- The first piece of packet k is lost. It leaves the outstanding record, and so is due again if it is of use, and stands in the lost
-- record of that number, which a late ACK may name (RFC 9000, section 13.3).
abbrev pub first_lost : ℕ → Piece → End → End
first_lost k p e = record e { outstanding = without_first e.outstanding k (fmap.get e.outstanding k); lost = lost_with k p e.lost }

-- these pieces of packet k are lost, one after the other
unfoldable pub losses : ℕ → List Piece → End → End
losses k [] e = e
losses k (p ∷ ps) e = losses k ps (first_lost k p e)

abbrev pub lose_refusal : End → ℕ → Option LostFault
lose_refusal e k = first_refusal (refuse_if (is_some e.closed) losing.Closed) (refuse_if (is_none (fmap.get e.outstanding k)) losing.NotOutstanding)

-- All pieces of the record are lost; where there is no memory, some first ones are.
abbrev pub LoseStep : End → ℕ → Result (Unit {0}) LostFault → End → Type 0
LoseStep old k answer new =
    Certain (lose_refusal old k) old answer new
    ((ps : List Piece) × (fmap.get old.outstanding k ≡ Some ps) × (
    ((answer ≡ Ok tt) × (new ≡ losses k ps old))
    ⊎ ((moved : ℕ) × (moved < length ps) × (answer ≡ Err losing.NoMemory) × (new ≡ losses k (take moved ps) old))))

-- The payload of a closing (RFC 9000, sections 10.2.3 and 19.19)

abbrev pub close_text_of : Option Closed → Option (List ℕ)
close_text_of None = None
close_text_of (Some (ByPeer code)) = None
close_text_of (Some (Noted close)) = None
close_text_of (Some (ByUs closing)) = Some (canonical (connection_close closing.code closing.frame_type []))

-- the CONNECTION_CLOSE of this end's own closing, with an empty reason (RFC 9000, section 19.19)
abbrev pub close_text : End → Option (List ℕ)
close_text e = close_text_of e.closed

abbrev pub ClosePayloadBy : Option (List ℕ) → List ℕ → Option ℕ → List ℕ → Type 0
ClosePayloadBy None before answer after = (answer ≡ None) × (after ≡ before)
ClosePayloadBy (Some text) before answer after =
    MatchBool (nat_le (length text) (length before))
    ((answer ≡ Some (length text)) × (after ≡ text ++ drop (length text) before))
    ((answer ≡ None) × (after ≡ before))

-- `close_payload` into a slice: nothing is written where the text doesn't fit
abbrev pub ClosePayload : End → List ℕ → Option ℕ → List ℕ → Type 0
ClosePayload e before answer after = ClosePayloadBy (close_text e) before answer after
