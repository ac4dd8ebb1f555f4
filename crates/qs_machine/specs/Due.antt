-- Trusted.
-- What is to be sent: bytes, ends, control items and the ACK (RFC 9000, sections 4, 13.2 and 13.3).
use Rattle.std.specs.Prelude.{◌≡◌, ℕ, ◌+◌, ◌<◌, ◌≤◌, true, false, ◌⊎◌, Option, Some, None}
use Rattle.std.specs.FinSet as set
use Rattle.qs_wire.specs.declared.stream_id.Dir.{Dir}
use Rattle.qs_wire.specs.declared.stream_id.Dir.TheVariants.{Bidi, Uni}
use Rattle.qs_recv.specs.Lane.{RecvLane, is_whole}
use Rattle.qs_send.specs.Lane.{SendLane}
use Rattle.qs_send.specs.declared.parts.Chunk.{Chunk}
use Rattle.qs_send.specs.declared.piece.Item.{Item}
use Rattle.qs_send.specs.declared.piece.Item.TheVariants.{MaxData, MaxStreamData, MaxStreams, ResetStream, StopSending, DataBlocked, StreamDataBlocked, StreamsBlocked}
use Rattle.qs_send.specs.declared.piece.Piece.{Piece}
use Rattle.qs_send.specs.declared.piece.Piece.TheVariants.{Data, Told}
pub use Rattle.qs_send.specs.Records.{Among}
use Rattle.qs_send.specs.Records.{IsCarried}
use Rattle.qs_machine.specs.Acked.{HasAcked}
use Rattle.qs_machine.specs.Ends.{End, send_lane, recv_lane, first_window}
use Rattle.qs_machine.specs.Credit.{all_sent, granted_streams, first_grant}

-- some outstanding packet carried the piece (RFC 9000, section 13.3)
abbrev pub IsOutstanding : End → Piece → Type 0
IsOutstanding e p = IsCarried e.outstanding p

-- the offset of a stream is in an outstanding packet (RFC 9000, section 13.3)
abbrev pub IsInFlight : End → ℕ → ℕ → Type 0
IsInFlight e n q = (c : Chunk) × IsOutstanding e (Data n c) × (c.offset ≤ q) × (q < c.offset + c.len)

-- an offset is due: it was written, isn't acknowledged and is in no outstanding packet; after a reset none is (RFC 9000, section 13.3)
pub record IsDue (e : End) (n : ℕ) (l : SendLane) (q : ℕ) : Type 0 where
  pub no_reset : l.was_reset ≡ None
  pub written : q < l.written
  pub not_acked : set.contains l.acked q ≡ false
  pub not_sent : IsInFlight e n q → ⊥

-- the end of a stream is due: it was asked for, isn't acknowledged and is in no outstanding packet; after a reset it isn't
-- (RFC 9000, section 13.3)
pub record IsEndDue (e : End) (n : ℕ) (l : SendLane) : Type 0 where
  pub no_reset : l.was_reset ≡ None
  pub finished : l.finished ≡ true
  pub not_acked : l.fin_acked ≡ false
  pub not_sent : ((offset len : ℕ) → IsOutstanding e (Data n (record { offset = offset; len = len; fin = true })) → ⊥)

-- Control items (RFC 9000, sections 4.1, 4.6 and 13.3)

-- a stream has bytes that only the connection's credit holds back: its sent end is below its own limit
pub record WantsCredit (e : End) (n : ℕ) (l : SendLane) : Type 0 where
  pub lane : send_lane e n ≡ Some l
  pub no_reset : l.was_reset ≡ None
  pub more : l.sent_end < l.written
  pub below : l.sent_end < l.limit

abbrev pub wanted : End → Dir → Option ℕ
wanted e Bidi = e.wanted_bidi
wanted e Uni = e.wanted_uni

abbrev pub known_count : End → Dir → ℕ
known_count e Bidi = e.known_bidi
known_count e Uni = e.known_uni

-- There is a reason to tell the item, and it has its present value (RFC 9000, sections 4.1, 4.6 and 13.3).
abbrev pub IsCurrent : End → Item → Type 0
IsCurrent e (MaxData m) = (m ≡ e.granted) × (e.settings.conn_window < m)
IsCurrent e (MaxStreamData n m) = (l : RecvLane) × (recv_lane e n ≡ Some l) × (m ≡ l.limit) × (first_window e n < m) × (l.final_size ≡ None)
IsCurrent e (MaxStreams d m) = (m ≡ granted_streams e d) × (first_grant e.settings d < m)
IsCurrent e (ResetStream n code size) = (l : SendLane) × (send_lane e n ≡ Some l) × (l.was_reset ≡ Some (record { code = code; size = size }))
IsCurrent e (StopSending n code) = (l : RecvLane) × (recv_lane e n ≡ Some l) × (l.stop_code ≡ Some code) × (l.reset_code ≡ None) × (is_whole l ≡ false)
IsCurrent e (DataBlocked m) = (m ≡ e.known_data) × (all_sent e ≡ m) × ((n : ℕ) × (l : SendLane) × WantsCredit e n l)
IsCurrent e (StreamDataBlocked n m) =
    (l : SendLane) × (send_lane e n ≡ Some l) × (l.was_reset ≡ None) × (m ≡ l.limit) × (l.limit < l.written) × (l.sent_end ≡ l.limit)
IsCurrent e (StreamsBlocked d m) = (wanted e d ≡ Some m) × (m ≡ known_count e d)

-- an acknowledged packet told the item with this value; of a RESET_STREAM its half knows it
abbrev pub IsAcked : End → Item → Type 0
IsAcked e (ResetStream n code size) = (l : SendLane) × (send_lane e n ≡ Some l) × (l.reset_acked ≡ true)
IsAcked e item = HasAcked e.acked item

-- a packet in flight or acknowledged has the item with this value
abbrev pub IsCovered : End → Item → Type 0
IsCovered e i = IsOutstanding e (Told i) ⊎ IsAcked e i

-- An item is due where there is a reason to tell it, and no packet in flight or acknowledged has it with the present value (RFC 9000, section
-- 13.3).
abbrev pub IsDueItem : End → Item → Type 0
IsDueItem e i = IsCurrent e i × (IsCovered e i → ⊥)

-- What may go out (RFC 9000, sections 3.1, 3.3 and 4.1)

-- a due byte below the stream's limit was sent before, or the connection has credit for it
abbrev pub ByteGoes : End → ℕ → SendLane → Type 0
ByteGoes e n l = (q : ℕ) × IsDue e n l q × (q < l.limit) × ((q < l.sent_end) ⊎ ((q ≡ l.sent_end) × (all_sent e < e.known_data)))

-- the end goes once every byte was sent
abbrev pub EndGoes : End → ℕ → SendLane → Type 0
EndGoes e n l = IsEndDue e n l × (l.sent_end ≡ l.written)

abbrev pub StreamGoes : End → ℕ → Type 0
StreamGoes e n = (l : SendLane) × (send_lane e n ≡ Some l) × (ByteGoes e n l ⊎ EndGoes e n l)

-- something is due that no limit holds back
abbrev pub Sendable : End → Type 0
Sendable e = (e.ack_due ≡ true) ⊎ ((i : Item) × IsDueItem e i) ⊎ ((n : ℕ) × StreamGoes e n)
