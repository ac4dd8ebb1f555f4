-- Trusted.
-- What a frame changes (RFC 9000, sections 3, 13.3 and 19).
use Rattle.std.specs.Prelude.{◌≡◌, ℕ, Bool, true, false, if◌then◌else◌, ◌&&◌, List, [], ◌∷◌, ◌++◌, map, reverse, flat_map, max, Option, None, Some, nat_le, ⊤}
use Rattle.std.specs.List.{list_any, filter}
use Rattle.std.specs.Ordering.{nat_cmp}
use Rattle.std.specs.FinMap as fmap
use Rattle.std.specs.FinSet as set
use Rattle.qs_wire.specs.declared.stream_id.Dir.TheVariants.{Bidi, Uni}
use Rattle.qs_recv.specs.Lane.{take_stream, take_reset}
use Rattle.qs_send.specs.Lane.{acked_lane, stop_taken, allow_lane, reset_acked_lane}
use Rattle.qs_send.specs.declared.piece.Item.{Item}
use Rattle.qs_send.specs.declared.piece.Item.TheVariants.{MaxData, MaxStreamData, MaxStreams, ResetStream, StopSending, DataBlocked, StreamDataBlocked, StreamsBlocked}
use Rattle.qs_send.specs.declared.piece.Piece.{Piece}
use Rattle.qs_send.specs.declared.piece.Piece.TheVariants.{Data, Told}
pub use Rattle.qs_send.specs.Records.{without_first}
use Rattle.qs_machine.specs.Acked.{AckedItems, with_item}
use Rattle.qs_machine.specs.Ends.{End, Records, lost_less, on_send, on_recv, opened_by_peer}
use Rattle.qs_machine.specs.Seen.{Seen, Ack, Stream, Control, Close, Plain}
use Rattle.qs_machine.specs.Verdicts.{verdict}

-- Acknowledgements (RFC 9000, section 13.3)

abbrev pub with_acked : AckedItems → End → End
with_acked items e = record e { acked = items }

-- an item is acknowledged with this value; of a RESET_STREAM its half knows it
abbrev pub item_acked : Item → End → End
item_acked (ResetStream n code size) e = on_send n reset_acked_lane e
item_acked item e = with_acked (with_item item e.acked) e

abbrev pub piece_acked : Piece → End → End
piece_acked (Data n chunk) e = on_send n (λ l. acked_lane l chunk) e
piece_acked (Told item) e = item_acked item e

-- a piece that an ACK takes: the packet's number, the piece, and whether it stands in a lost record
pub record AckedPiece : Type 0 where
  pub number : ℕ
  pub piece : Piece
  pub late : Bool

abbrev pub acked_at : Bool → ℕ → Piece → AckedPiece
acked_at late k p = record { number = k; piece = p; late = late }

-- the outstanding records, or the lost ones
abbrev pub held : Bool → End → Records
held late e = if late then e.lost.pieces else e.outstanding

-- the record of packet k without its first piece: the outstanding one, or the lost one
abbrev pub without_piece : Bool → ℕ → End → End
without_piece late k e =
    record e {
      outstanding = if late then e.outstanding else without_first e.outstanding k (fmap.get e.outstanding k);
      lost = if late then lost_less k e.lost else e.lost;
    }

-- The first piece of a packet is acknowledged and leaves the record (RFC 9000, section 13.3).
abbrev pub first_acked : AckedPiece → End → End
first_acked a e = piece_acked a.piece (without_piece a.late a.number e)

-- the pieces of packet k in these records, in the order in which they were put in
abbrev pub pieces_of : Bool → Records → ℕ → List AckedPiece
pieces_of late m k = elim (fmap.get m k) [ None ↦ [] | Some ps ↦ map (acked_at late k) ps ]

-- whether a number lies in one of an ACK's ranges (RFC 9000, section 19.3.1)
abbrev pub is_named : List (ℕ × ℕ) → ℕ → Bool
is_named ranges k = list_any (λ r. nat_le r.0 k && nat_le k r.1) ranges

-- the packets of these records that an ACK names, from the highest number down
abbrev pub acked_numbers : Records → List (ℕ × ℕ) → List ℕ
acked_numbers m ranges = reverse (filter (is_named ranges) (fmap.keys m))

-- the pieces of these records that an ACK takes
abbrev pub named_in : Bool → Records → List (ℕ × ℕ) → List AckedPiece
named_in late m ranges = flat_map (pieces_of late m) (acked_numbers m ranges)

-- the pieces that an ACK takes, in order: those of the outstanding packets that it names, and then those of the lost ones
abbrev pub named : End → List (ℕ × ℕ) → List AckedPiece
named e ranges = named_in false e.outstanding ranges ++ named_in true e.lost.pieces ranges

-- these pieces are acknowledged, one after the other
unfoldable pub acks : List AckedPiece → End → End
acks [] e = e
acks (a ∷ ps) e = acks ps (first_acked a e)

-- Frames (RFC 9000, sections 3 and 19)

-- limits and counts never fall (RFC 9000, section 4.1); a STOP_SENDING resets the half that it names, or its owner answers it, and its code
-- is kept where the half can be reset (section 3.5)
abbrev pub item_taken : Item → End → End
item_taken (MaxData m) e = record e { known_data = max e.known_data m }
item_taken (MaxStreamData n m) e = on_send n (λ l. allow_lane l m) (opened_by_peer n e)
item_taken (MaxStreams Bidi m) e = record e { known_bidi = max e.known_bidi m }
item_taken (MaxStreams Uni m) e = record e { known_uni = max e.known_uni m }
item_taken (ResetStream n code size) e = on_recv n (λ l. take_reset l code size) (opened_by_peer n e)
item_taken (StopSending n code) e = on_send n (λ l. stop_taken e.tuning.answers_stops l code) (opened_by_peer n e)
item_taken (DataBlocked m) e = e
item_taken (StreamDataBlocked n m) e = opened_by_peer n e
item_taken (StreamsBlocked d m) e = e

-- the end after a frame that has no fault took effect
unfoldable pub frame_taken : Seen → End → End
frame_taken (Ack largest ranges) e = acks (named e ranges) e
frame_taken (Stream n offset bytes fin) e = on_recv n (λ l. take_stream l offset bytes fin) (opened_by_peer n e)
frame_taken (Control item) e = item_taken item e
frame_taken (Close code) e = e
frame_taken (Plain asks) e = e

-- the end after these frames took effect, one after the other
unfoldable pub frames_taken : List Seen → End → End
frames_taken [] e = e
frames_taken (f ∷ fs) e = frames_taken fs (frame_taken f e)

-- each frame had no fault when its turn came, and none is a CONNECTION_CLOSE
abbrev pub NoFault : End → List Seen → Type 0
NoFault e [] = ⊤
NoFault e (Close code ∷ fs) = ⊥
NoFault e (f ∷ fs) = (verdict e f ≡ None) × NoFault (frame_taken f e) fs
