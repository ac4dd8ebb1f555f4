-- Trusted.
-- Which frame may run out of memory, and at which end: memory is refused only where it is asked for (ours for the whole file: RFC 9000
-- says nothing of want of memory; by section 13.1 a packet of which some frame took no effect isn't acknowledged).
use Rattle.std.specs.Prelude.{◌≡◌, ℕ, ◌+◌, ◌-◌, ◌<◌, ◌≤◌, false, IsTrue, length, ◌⊎◌, Option, None, Some, is_some, ⊤}
use Rattle.qs_ranges.specs.Numbers.{MissesRange, covers}
use Rattle.qs_recv.specs.Lane.{RecvLane}
use Rattle.qs_send.specs.Lane.{SendLane}
use Rattle.qs_send.specs.declared.parts.Chunk.{Chunk}
use Rattle.qs_send.specs.declared.piece.Item.{Item}
use Rattle.qs_send.specs.declared.piece.Item.TheVariants.{MaxData, MaxStreamData, MaxStreams, ResetStream, StopSending, DataBlocked, StreamDataBlocked, StreamsBlocked}
use Rattle.qs_send.specs.declared.piece.Piece.{Piece}
use Rattle.qs_send.specs.declared.piece.Piece.TheVariants.{Data, Told}
use Rattle.qs_machine.specs.Tables.{Tables, lookup}
use Rattle.qs_machine.specs.Acked.{AckedItems, HasAcked}
use Rattle.qs_machine.specs.Ends.{End, is_own, is_uni, send_lane, recv_lane}
use Rattle.qs_machine.specs.Seen.{Seen, Ack, Stream, Control, Close, Plain}
use Rattle.qs_machine.specs.Verdicts.{lane_of}
use Rattle.qs_machine.specs.FrameStep.{AckedPiece}

-- the stream is the peer's, and a half of it isn't open yet (RFC 9000, section 3.2)
abbrev pub IsYetToOpen : End → ℕ → Type 0
IsYetToOpen e n = (is_own e n ≡ false) × ((recv_lane e n ≡ None) ⊎ ((is_uni n ≡ false) × (send_lane e n ≡ None)))

-- so many bytes from an offset on have one that is new, and are kept: no reset came, and after a stop nothing came beside them
pub record HasNews (l : RecvLane) (offset n : ℕ) : Type 0 where
  pub no_reset : l.reset_code ≡ None
  pub some : covers l.arrived.received offset (offset + n) ≡ false
  pub apart : IsTrue (is_some l.stop_code) → MissesRange l.arrived.received (offset - 1) (offset + n + 1)

-- may this control item run out of memory at this end? Only one that opens a stream.
abbrev pub ItemMayRunOut : End → Item → Type 0
ItemMayRunOut e (MaxData m) = ⊥
ItemMayRunOut e (MaxStreamData n m) = IsYetToOpen e n
ItemMayRunOut e (MaxStreams d m) = ⊥
ItemMayRunOut e (ResetStream n code size) = IsYetToOpen e n
ItemMayRunOut e (StopSending n code) = IsYetToOpen e n
ItemMayRunOut e (DataBlocked m) = ⊥
ItemMayRunOut e (StreamDataBlocked n m) = IsYetToOpen e n
ItemMayRunOut e (StreamsBlocked d m) = ⊥

-- may this frame run out of memory at this end, before anything of it takes effect? Of an ACK its pieces tell.
abbrev pub MayRunOut : End → Seen → Type 0
MayRunOut e (Ack largest ranges) = ⊤
MayRunOut e (Stream n offset bytes fin) = IsYetToOpen e n ⊎ HasNews (lane_of e n) offset (length bytes)
MayRunOut e (Control i) = ItemMayRunOut e i
MayRunOut e (Close code) = ⊥
MayRunOut e (Plain asks) = ⊥

-- May it take memory to know that the item was acknowledged? Only where it is of a stream, and neither its present value was acknowledged
-- yet nor an earlier one; of a stop, none of a stream beside it either.
abbrev pub NoteMayRunOut : AckedItems → Item → Type 0
NoteMayRunOut a (MaxData m) = ⊥
NoteMayRunOut a (MaxStreamData n m) = (v : ℕ) → HasAcked a (MaxStreamData n v) → ⊥
NoteMayRunOut a (MaxStreams d m) = ⊥
NoteMayRunOut a (ResetStream n code size) = ⊥
NoteMayRunOut a (StopSending n code) = (k : ℕ) → n ≤ k + 1 → k ≤ n + 1 → HasAcked a (StopSending k code) → ⊥
NoteMayRunOut a (DataBlocked m) = ⊥
NoteMayRunOut a (StreamDataBlocked n m) = (v : ℕ) → HasAcked a (StreamDataBlocked n v) → ⊥
NoteMayRunOut a (StreamsBlocked d m) = ⊥

-- may it take memory to know that the chunk was acknowledged? Only where no offset in it or beside it was.
abbrev pub ChunkMayRunOut : SendLane → Chunk → Type 0
ChunkMayRunOut l c = (0 < c.len) × MissesRange l.acked (c.offset - 1) (c.offset + c.len + 1)

-- may it take memory to know that the piece was acknowledged?
abbrev pub PieceMayRunOut : Tables SendLane → AckedItems → Piece → Type 0
PieceMayRunOut t a (Data n c) = (l : SendLane) × (lookup t n ≡ Some l) × ChunkMayRunOut l c
PieceMayRunOut t a (Told i) = NoteMayRunOut a i

-- the piece at which an ACK stops, if there is one, may run out of memory
abbrev pub StopsAt : Tables SendLane → AckedItems → Option AckedPiece → Type 0
StopsAt t a None = ⊥
StopsAt t a (Some p) = PieceMayRunOut t a p.piece
