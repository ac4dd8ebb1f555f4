-- Of private contracts.
-- The sending side of an end: its sending halves, its packets, and what was acknowledged of them.
use Rattle.std.specs.Prelude.{◌≡◌, ℕ, ◌+◌, ◌-◌, ◌<◌, ◌≤◌, ◌↔◌, Bool, true, false, if◌then◌else◌, List, [], ◌∷◌, ◌++◌, length, map, Option, None, Some, is_some, ⊤, IsTrue}
use Rattle.std.specs.FinMap as fmap
use Rattle.std.specs.FinSet as set
use Rattle.qs_wire.specs.declared.stream_id.Dir.TheVariants.{Bidi, Uni}
use Rattle.qs_ranges.specs.Numbers.{MAX_VARINT}
use Rattle.qs_send.specs.Lane.{SendLane, Sending, sent_lane, acked_lane, blocked_lane, reset_acked_lane, after_acked, after_lost, after_blocked, after_reset_acked}
use Rattle.qs_send.specs.Chunks.{IsNextChunk, HasNoChunk, HasBytes, WasSent}
use Rattle.qs_send.specs.Parts.{in_flight}
use Rattle.qs_send.specs.Sound.{IsLawful}
use Rattle.qs_send.specs.Records.{IsCarried}
use Rattle.qs_send.specs.declared.parts.Chunk.{Chunk}
use Rattle.qs_send.specs.declared.parts.Reset.{Reset}
use Rattle.qs_send.specs.declared.piece.Item.{Item}
use Rattle.qs_send.specs.declared.piece.Item.TheVariants.{MaxData, MaxStreamData, MaxStreams, ResetStream, StopSending, DataBlocked, StreamDataBlocked, StreamsBlocked}
use Rattle.qs_send.specs.declared.piece.Piece.{Piece}
use Rattle.qs_send.specs.declared.piece.Piece.TheVariants.{Data, Told}
pub use Rattle.qs_send.specs.Records.{IsCarried, AreBelow, NoneEmpty, first_piece}
use Rattle.qs_machine.specs.Tables.{Tables, no_streams, lookup, updated, total}
use Rattle.qs_machine.specs.Ends.{End, Records, LostPackets, no_lost, lost_with, lost_less}
use Rattle.qs_machine.specs.Acked.{AckedItems, no_items, with_item, HasAcked}
use Rattle.qs_machine.specs.FrameStep.{without_first, AckedPiece}
pub use Rattle.qs_machine.specs.FrameStep.{acked_at}
use Rattle.qs_machine.specs.Due.{Among}

-- the part of an end that sends; `spare` tells for how many pieces more the packet in the making has room
pub record Outgoing : Type 0 where
  pub sends : Tables SendLane
  pub next : ℕ
  pub outstanding : Records
  pub lost : LostPackets
  pub acked : AckedItems
  pub spare : ℕ

abbrev pub no_packets : Outgoing
no_packets = record { sends = no_streams; next = 0; outstanding = fmap.empty; lost = no_lost; acked = no_items; spare = 0 }

-- an end with this sending side
abbrev pub with_outgoing : Outgoing → End → End
with_outgoing o e = record e { sends = o.sends; next = o.next; outstanding = o.outstanding; lost = o.lost; acked = o.acked }

abbrev pub with_sends : Tables SendLane → Outgoing → Outgoing
with_sends sends o = record o { sends = sends }

-- the sending half changed by f, where there is one
abbrev pub on_lane : ℕ → (SendLane → SendLane) → Outgoing → Outgoing
on_lane n f o = with_sends (updated o.sends n f (lookup o.sends n)) o

-- the sum of all sent ends
abbrev pub sent_sum : Tables SendLane → ℕ
sent_sum sends = total (λ l. l.sent_end) sends

-- Records

-- the record of packet k lost its first piece
abbrev pub shorter : ℕ → Outgoing → Outgoing
shorter k o = record o { outstanding = without_first o.outstanding k (fmap.get o.outstanding k) }

-- an acknowledged RESET_STREAM is marked in its sending half
abbrev pub reset_noted : Item → Tables SendLane → Tables SendLane
reset_noted (ResetStream n code size) t = updated t n reset_acked_lane (lookup t n)
reset_noted (MaxData m) t = t
reset_noted (MaxStreamData n m) t = t
reset_noted (MaxStreams d m) t = t
reset_noted (StopSending n code) t = t
reset_noted (DataBlocked m) t = t
reset_noted (StreamDataBlocked n m) t = t
reset_noted (StreamsBlocked d m) t = t

abbrev pub piece_acked_out : Piece → Outgoing → Outgoing
piece_acked_out (Data n chunk) o = on_lane n (λ l. acked_lane l chunk) o
piece_acked_out (Told item) o = record o { sends = reset_noted item o.sends; acked = with_item item o.acked }

-- the record of packet k without its first piece: the outstanding one, or the lost one
abbrev pub without_piece_out : Bool → ℕ → Outgoing → Outgoing
without_piece_out late k o =
    record o {
      outstanding = if late then o.outstanding else without_first o.outstanding k (fmap.get o.outstanding k);
      lost = if late then lost_less k o.lost else o.lost;
    }

-- the first piece of a packet is acknowledged and leaves the record
abbrev pub first_acked_out : AckedPiece → Outgoing → Outgoing
first_acked_out a o = piece_acked_out a.piece (without_piece_out a.late a.number o)

-- the first piece of packet k is lost: it moves to the lost record of that number
abbrev pub first_lost_out : ℕ → Piece → Outgoing → Outgoing
first_lost_out k p o = record (shorter k o) { lost = lost_with k p o.lost }

-- The packet in the making

-- the pieces of packet k
abbrev pub pieces_in : Records → ℕ → List Piece
pieces_in m k = elim (fmap.get m k) [ None ↦ [] | Some ps ↦ ps ]

-- the piece stands in the record of the packet that is being made
abbrev pub noted_out : Piece → Outgoing → Outgoing
noted_out p o =
    record o { outstanding = fmap.insert o.outstanding o.next (pieces_in o.outstanding o.next ++ p ∷ []); spare = o.spare - 1 }

abbrev pub chunk_put : ℕ → Chunk → Outgoing → Outgoing
chunk_put n chunk o = noted_out (Data n chunk) (on_lane n (λ l. sent_lane l chunk) o)

-- that a STREAM_DATA_BLOCKED was sent is marked in its sending half
abbrev pub blocked_noted : Item → Tables SendLane → Tables SendLane
blocked_noted (StreamDataBlocked n m) t = updated t n blocked_lane (lookup t n)
blocked_noted (ResetStream n code size) t = t
blocked_noted (MaxData m) t = t
blocked_noted (MaxStreamData n m) t = t
blocked_noted (MaxStreams d m) t = t
blocked_noted (StopSending n code) t = t
blocked_noted (DataBlocked m) t = t
blocked_noted (StreamsBlocked d m) t = t

abbrev pub item_put_out : Item → Outgoing → Outgoing
item_put_out item o = noted_out (Told item) (with_sends (blocked_noted item o.sends) o)

-- What is due, against what is outstanding

-- the offset of a stream is in an outstanding packet
abbrev pub CarriesOffset : Records → ℕ → ℕ → Type 0
CarriesOffset m n q = (c : Chunk) × IsCarried m (Data n c) × (c.offset ≤ q) × (q < c.offset + c.len)

-- Of a half: outstanding chunks were sent, and aren't due; what is written and neither acknowledged nor due is outstanding; and so of
-- the end. What is outstanding may be acknowledged: an earlier packet with it was, late.
pub record IsTied (m : Records) (n : ℕ) (s : Sending) : Type 0 where
  pub id : s.lane.id ≡ n
  pub sent : (c : Chunk) → IsCarried m (Data n c) → WasSent s.lane c
  pub not_due : (q : ℕ) → CarriesOffset m n q → set.contains s.due.offsets q ≡ false
  pub flies : (q : ℕ) → s.lane.was_reset ≡ None → q < s.lane.written → set.contains s.lane.acked q ≡ false → set.contains s.due.offsets q ≡ false → CarriesOffset m n q
  pub end_not_due : (c : Chunk) → IsCarried m (Data n c) → c.fin ≡ true → s.due.fin ≡ false
  pub end_flies : s.lane.was_reset ≡ None → s.lane.finished ≡ true → s.lane.fin_acked ≡ false → s.due.fin ≡ false → (c : Chunk) × IsCarried m (Data n c) × (c.fin ≡ true)

-- the offsets in flight of a half that wasn't reset are those of the outstanding pieces that aren't acknowledged (RFC 9000, section 13.3)
abbrev pub FliesAsCarried : Records → ℕ → Sending → Type 0
FliesAsCarried m n s = s.lane.was_reset ≡ None → (q : ℕ) → IsTrue (set.contains (in_flight s) q) ↔ (CarriesOffset m n q × (set.contains s.lane.acked q ≡ false))

-- the half of a stream: its lane, and what of it is due
pub record HasSending (o : Outgoing) (n : ℕ) (s : Sending) : Type 0 where
  pub lane : lookup o.sends n ≡ Some s.lane
  pub lawful : IsLawful s
  pub tied : IsTied o.outstanding n s
  pub flight : FliesAsCarried o.outstanding n s

-- the longest chunk that may go, whose bytes are in the buffer; or there is none
abbrev pub ChunkFound : Sending → ℕ → ℕ → Option Chunk → Type 0
ChunkFound s room fresh None = HasNoChunk s room fresh
ChunkFound s room fresh (Some c) = IsNextChunk s room fresh c × HasBytes s.lane c

-- the lanes of halves
abbrev pub lanes_of : Tables Sending → Tables SendLane
lanes_of t =
    record {
      client_bidi = map (λ (s : Sending). s.lane) t.client_bidi;
      server_bidi = map (λ (s : Sending). s.lane) t.server_bidi;
      client_uni = map (λ (s : Sending). s.lane) t.client_uni;
      server_uni = map (λ (s : Sending). s.lane) t.server_uni;
    }

-- Two pieces apart: two chunks of one stream share no offset, and one of them at most bears the end; two items differ.
pub record AreApart (c d : Chunk) : Type 0 where
  pub offsets : (q : ℕ) → c.offset ≤ q → q < c.offset + c.len → d.offset ≤ q → q < d.offset + d.len → ⊥
  pub ends : c.fin ≡ true → d.fin ≡ true → ⊥

abbrev pub Apart : Piece → Piece → Type 0
Apart (Data n c) (Data k d) = n ≡ k → AreApart c d
Apart (Data n c) (Told i) = ⊤
Apart (Told i) (Data n c) = ⊤
Apart (Told i) (Told j) = i ≡ j → ⊥

abbrev pub ApartFrom : Piece → List Piece → Type 0
ApartFrom p [] = ⊤
ApartFrom p (q ∷ qs) = Apart p q × ApartFrom p qs

abbrev pub ApartAll : List Piece → Type 0
ApartAll [] = ⊤
ApartAll (p ∷ ps) = ApartFrom p ps × ApartAll ps

-- any two outstanding pieces are apart
pub record AreApartIn (m : Records) : Type 0 where
  pub inside : (k : ℕ) (ps : List Piece) → fmap.get m k ≡ Some ps → ApartAll ps
  pub across : (k j : ℕ) (ps qs : List Piece) (p q : Piece) → (k ≡ j → ⊥) → fmap.get m k ≡ Some ps → fmap.get m j ≡ Some qs → Among p ps → Among q qs → Apart p q

-- each outstanding chunk is of an open stream, and each outstanding RESET_STREAM of one that was reset
abbrev pub IsOfReset : Option SendLane → Type 0
IsOfReset None = ⊥
IsOfReset (Some l) = is_some l.was_reset ≡ true

abbrev pub IsOfOpen : Tables SendLane → Piece → Type 0
IsOfOpen t (Data n c) = is_some (lookup t n) ≡ true
IsOfOpen t (Told (ResetStream n code size)) = IsOfReset (lookup t n)
IsOfOpen t (Told item) = ⊤

abbrev pub AreOfOpen : Tables SendLane → Records → Type 0
AreOfOpen t m = (p : Piece) → IsCarried m p → IsOfOpen t p

-- what holds of all halves and of what is outstanding
pub record AreTied (t : Tables Sending) (m : Records) : Type 0 where
  pub lanes : (n : ℕ) (s : Sending) → lookup t n ≡ Some s → IsTied m n s
  pub apart : AreApartIn m
  pub of_open : AreOfOpen (lanes_of t) m

-- The records and the packet in the making

-- the records with the pieces of the packet in the making, where it has some
abbrev pub with_pending : Records → ℕ → List Piece → Records
with_pending m k [] = m
with_pending m k (p ∷ ps) = fmap.insert m k (p ∷ ps)

-- no packet in the making has a piece
abbrev pub IsIdle : Outgoing → Type 0
IsIdle o = fmap.get o.outstanding o.next ≡ None

-- a piece that was sent: a chunk of an open stream, or an item
abbrev pub IsSentPiece : Tables Sending → Piece → Type 0
IsSentPiece t (Data n c) = (s : Sending) × (lookup t n ≡ Some s) × WasSent s.lane c
IsSentPiece t (Told (ResetStream n code size)) = (s : Sending) × (lookup t n ≡ Some s) × (is_some s.lane.was_reset ≡ true)
IsSentPiece t (Told item) = ⊤

-- what these packets carried was sent
abbrev pub AreSent : Tables Sending → Records → Type 0
AreSent t m = (p : Piece) → IsCarried m p → IsSentPiece t p

-- the halves once a piece is acknowledged
abbrev pub halves_acked : Piece → Tables Sending → Tables Sending
halves_acked (Data n c) t = updated t n (λ s. after_acked s c) (lookup t n)
halves_acked (Told (ResetStream n code size)) t = updated t n after_reset_acked (lookup t n)
halves_acked (Told item) t = t

abbrev pub items_acked : Piece → AckedItems → AckedItems
items_acked (Data n c) a = a
items_acked (Told item) a = with_item item a

-- the halves once a piece is lost
abbrev pub halves_lost : Piece → Tables Sending → Tables Sending
halves_lost (Data n c) t = updated t n (λ s. after_lost s c) (lookup t n)
halves_lost (Told item) t = t

abbrev pub halves_told : Item → Tables Sending → Tables Sending
halves_told (StreamDataBlocked n m) t = updated t n after_blocked (lookup t n)
halves_told item t = t

-- what holds of an outbox beside its value
pub record IsOutbox (t : Tables Sending) (m : Records) (has_room : Bool) (pending : List Piece) (next sent spare free : ℕ) : Type 0 where
  pub tied : AreTied t (with_pending m next pending)
  pub below : AreBelow m next
  pub sum : sent_sum (lanes_of t) ≡ sent
  pub small : sent ≤ MAX_VARINT
  pub room : spare ≤ free
  pub ready : 0 < spare + length pending → has_room ≡ true

-- What is to be told

-- an acknowledged packet told the item with this value
abbrev pub IsAckedReset : Option SendLane → Type 0
IsAckedReset None = ⊥
IsAckedReset (Some l) = l.reset_acked ≡ true

abbrev pub IsAckedOut : Outgoing → Item → Type 0
IsAckedOut o (ResetStream n code size) = IsAckedReset (lookup o.sends n)
IsAckedOut o item = HasAcked o.acked item

-- a RESET_STREAM tells of a half that was reset
abbrev pub MayTell : Tables SendLane → Item → Type 0
MayTell t item = IsOfOpen t (Told item)

-- a half has bytes that its own limit holds back, and sent all below it
abbrev pub IsBlockedAt : Option SendLane → ℕ → Type 0
IsBlockedAt None m = ⊥
IsBlockedAt (Some l) m = (l.was_reset ≡ None) × (m ≡ l.limit) × (l.limit < l.written) × (l.sent_end ≡ l.limit)

-- a half has bytes that only the connection's credit holds back
abbrev pub WantsMore : Option SendLane → Type 0
WantsMore None = ⊥
WantsMore (Some l) = (l.was_reset ≡ None) × (l.sent_end < l.written) × (l.sent_end < l.limit)

-- a reset, by its code and its final size
abbrev pub reset_by : Option ℕ → Option ℕ → Option Reset
reset_by None size = None
reset_by (Some code) None = None
reset_by (Some code) (Some size) = Some (record { code = code; size = size })
