-- Trusted.
-- What a packet may hold (RFC 9000, sections 2.2, 4, 13.2 and 13.3).
use Rattle.std.specs.Prelude.{◌≡◌, ◌≢◌, ℕ, ◌+◌, ◌<◌, ◌≤◌, Bool, true, false, List, [], ◌∷◌, ◌++◌, ◌⊎◌, length, Some, None}
use Rattle.std.specs.FinMap as fmap
use Rattle.std.specs.FinSet as set
use Rattle.qs_send.specs.Lane.{SendLane, bytes_of, sent_lane, blocked_lane}
use Rattle.qs_send.specs.declared.parts.Chunk.{Chunk}
use Rattle.qs_send.specs.declared.piece.Item.{Item}
use Rattle.qs_send.specs.declared.piece.Item.TheVariants.{MaxData, MaxStreamData, MaxStreams, ResetStream, StopSending, DataBlocked, StreamDataBlocked, StreamsBlocked}
use Rattle.qs_send.specs.declared.piece.Piece.{Piece}
use Rattle.qs_send.specs.declared.piece.Piece.TheVariants.{Data, Told}
use Rattle.qs_machine.specs.Ends.{End, send_lane, on_send}
use Rattle.qs_machine.specs.Credit.{all_sent}
use Rattle.qs_machine.specs.Seen.{Seen, Ack, Stream, Control, Close, Plain}
use Rattle.qs_machine.specs.FrameStep.{is_named}
use Rattle.qs_send.specs.Records.{Among}
use Rattle.qs_machine.specs.Due.{IsDue, IsEndDue, IsDueItem, StreamGoes}

-- the pieces of a packet so far (RFC 9000, section 13.3)
abbrev pub pieces_so_far : End → ℕ → List Piece
pieces_so_far e k = elim (fmap.get e.outstanding k) [ None ↦ [] | Some ps ↦ ps ]

-- the offsets of a STREAM frame, and its FIN (RFC 9000, section 19.8)
abbrev pub chunk_of : ℕ → List ℕ → Bool → Chunk
chunk_of offset bytes fin = record { offset = offset; len = length bytes; fin = fin }

-- A STREAM frame may be the next one in the packet that is being made. It holds a run of due offsets from the lowest one on, with the
-- written bytes, below the stream's limit; each run stands in one frame. It has FIN only where the end is due and every byte is sent by
-- then; and it has a byte or FIN (RFC 9000, sections 2.2, 4.1, 13.3 and 19.8).
pub record MayCarry (e : End) (n offset : ℕ) (bytes : List ℕ) (fin : Bool) (l : SendLane) : Type 0 where
  pub lane : send_lane e n ≡ Some l
  pub no_reset : l.was_reset ≡ None
  pub something : (0 < length bytes) ⊎ (fin ≡ true)
  pub due : (q : ℕ) → offset ≤ q → q < offset + length bytes → IsDue e n l q
  pub lowest : (q : ℕ) → IsDue e n l q → offset ≤ q
  pub whole_run : (c : Chunk) → Among (Data n c) (pieces_so_far e e.next) → c.offset + c.len ≢ offset
  pub bytes_are : bytes ≡ bytes_of l (chunk_of offset bytes fin)
  pub inside : offset + length bytes ≤ l.written
  pub within : offset + length bytes ≤ l.limit
  pub end : fin ≡ true → IsEndDue e n l × (offset + length bytes ≡ l.written) × (offset ≤ l.sent_end)

-- An ACK names kept numbers alone, the highest of them, and the largest first (RFC 9000, sections 13.2.3 and 19.3).
pub record MayAck (old e : End) (largest : ℕ) (ranges : List (ℕ × ℕ)) : Type 0 where
  pub due : e.ack_due ≡ true
  pub kept : (k : ℕ) → is_named ranges k ≡ true → set.contains old.done k ≡ true
  pub names_largest : is_named ranges largest ≡ true
  pub largest_kept : (k : ℕ) → set.contains old.done k ≡ true → k ≤ largest
  pub highest : (j k : ℕ) → is_named ranges j ≡ true → j ≤ k → set.contains old.done k ≡ true → is_named ranges k ≡ true

-- The frame may be the next one in a packet that began at old and has led to e so far. Control items are those due as the packet
-- began, each once (RFC 9000, sections 12.4, 13.2 and 13.3).
abbrev pub MayPut : End → End → Seen → Type 0
MayPut old e (Ack largest ranges) = MayAck old e largest ranges
MayPut old e (Stream n offset bytes fin) = (l : SendLane) × MayCarry e n offset bytes fin l
MayPut old e (Control i) = IsDueItem old i × IsDueItem e i
MayPut old e (Close code) = ⊥
MayPut old e (Plain asks) = ⊥

-- the piece stands in the record of the packet that is being made (RFC 9000, section 13.3)
abbrev pub noted : Piece → End → End
noted p e = record e { outstanding = fmap.insert e.outstanding e.next (pieces_so_far e e.next ++ p ∷ []) }

-- that a STREAM_DATA_BLOCKED was sent is marked in its sending half (RFC 9000, section 3.1)
abbrev pub item_put : Item → End → End
item_put (MaxData m) e = e
item_put (MaxStreamData n m) e = e
item_put (MaxStreams d m) e = e
item_put (ResetStream n code size) e = e
item_put (StopSending n code) e = e
item_put (DataBlocked m) e = e
item_put (StreamDataBlocked n m) e = on_send n blocked_lane e
item_put (StreamsBlocked d m) e = e

-- the end after the frame was put in the packet; an ACK leaves no record (RFC 9000, sections 13.2 and 13.3)
unfoldable pub frame_put : Seen → End → End
frame_put (Ack largest ranges) e = record e { ack_due = false }
frame_put (Stream n offset bytes fin) e = noted (Data n (chunk_of offset bytes fin)) (on_send n (λ l. sent_lane l (chunk_of offset bytes fin)) e)
frame_put (Control i) e = noted (Told i) (item_put i e)
frame_put (Close code) e = e
frame_put (Plain asks) e = e

-- The frames may be put in one packet, one after the other, and lead from e to new (RFC 9000, section 12.4).
abbrev pub Fills : End → End → List Seen → End → Type 0
Fills old e [] new = new ≡ e
Fills old e (f ∷ fs) new = MayPut old e f × Fills old (frame_put f e) fs new

-- a packet that may be made, and the end after it; the sent ends stay within the peer's connection limit (RFC 9000, section 4.1)
pub record Lawful (old : End) (frames : List Seen) (new : End) : Type 0 where
  pub some : frames ≢ []
  pub filled : (mid : End) × Fills old old frames mid × (new ≡ record mid { next = old.next + 1 })
  pub within : all_sent new ≤ new.known_data

-- Turns: ours, for RFC 9000, section 2.3, leaves the order of streams to the owner

-- stream m comes before stream n where turns begin at `first`: those from there on, lower numbers first, and then those below it
abbrev pub ComesBefore : (first m n : ℕ) → Type 0
ComesBefore first m n = ((first ≤ m) × (n < first)) ⊎ ((m < n) × ((first ≤ m) ⊎ (n < first)))

-- a STREAM frame goes in only once no stream that comes before its own has anything that may go (ours, for RFC 9000, section 2.3)
abbrev pub IsInTurn : ℕ → End → Seen → Type 0
IsInTurn first e (Stream n offset bytes fin) = (m : ℕ) → ComesBefore first m n → StreamGoes e m → ⊥
IsInTurn first e f = Unit {0}

-- so do all frames of a packet, each at the end that those before it led to (ours, for RFC 9000, section 2.3)
abbrev pub AreInTurn : ℕ → End → List Seen → Type 0
AreInTurn first e [] = Unit {0}
AreInTurn first e (f ∷ fs) = IsInTurn first e f × AreInTurn first (frame_put f e) fs

-- Completeness: ours, for RFC 9000, section 13, leaves open how far a packet is filled

-- the ranges of an ACK name every kept number
abbrev pub NamesAll : End → List (ℕ × ℕ) → Type 0
NamesAll old ranges = (k : ℕ) → set.contains old.done k ≡ true → is_named ranges k ≡ true

-- such an ACK is among the frames
abbrev pub AcksAll : End → List Seen → Type 0
AcksAll old frames = (largest : ℕ) × (ranges : List (ℕ × ℕ)) × Among (Ack largest ranges) frames × NamesAll old ranges

-- all that was due as the packet began is in it, and the end after it can send control items at most
pub record IsWhole (old : End) (frames : List Seen) (new : End) : Type 0 where
  pub ack : old.ack_due ≡ true → AcksAll old frames
  pub items : (i : Item) → IsDueItem old i → Among (Control i) frames
  pub no_ack : new.ack_due ≡ false
  pub no_stream : (n : ℕ) → StreamGoes new n → ⊥

-- a packet that leaves 25 bytes or more of its room holds all that it could: no single item needs more
abbrev pub HasAll : ℕ → ℕ → End → List Seen → End → Type 0
HasAll room len old frames new = len + 25 ≤ room → IsWhole old frames new
