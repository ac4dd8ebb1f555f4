-- Of private contracts.
-- A packet in the making: what holds of it so far.
use Rattle.std.specs.Prelude.{◌≡◌, ℕ, ◌+◌, ◌-◌, ◌*◌, ◌<◌, ◌≤◌, ◌^◌, max, Bool, true, false, List, [], ◌∷◌, ◌++◌, ◌⊎◌, length, take, drop, Option, None, Some}
use Rattle.std.specs.List.{AllByRecursion}
use Rattle.std.specs.FinMap as fmap
use Rattle.qs_ranges.specs.Numbers.{MAX_VARINT}
use Rattle.qs_wire.specs.declared.stream_id.Dir.{Dir}
use Rattle.qs_wire.specs.declared.stream_id.Dir.TheVariants.{Bidi, Uni}
use Rattle.qs_wire.specs.Grammar.{Fits, canonical}
use Rattle.qs_wire.specs.Layout.{FrameValue, stream, reset_stream, stop_sending, max_data, max_stream_data, max_streams, data_blocked, stream_data_blocked, streams_blocked}
use Rattle.qs_recv.specs.Lane.{RecvLane}
use Rattle.qs_send.specs.Lane.{SendLane, Sending, bytes_of}
use Rattle.qs_send.specs.Chunks.{IsDueChunk, HasBytes, frame_len}
use Rattle.qs_send.specs.PieceCodes.{dir_number}
use Rattle.qs_send.specs.declared.parts.Chunk.{Chunk}
use Rattle.qs_send.specs.declared.piece.Piece.{Piece}
use Rattle.qs_send.specs.declared.piece.Piece.TheVariants.{Data, Told}
use Rattle.qs_send.specs.declared.piece.Item.{Item}
use Rattle.qs_send.specs.declared.piece.Item.TheVariants.{MaxData, MaxStreamData, MaxStreams, ResetStream, StopSending, DataBlocked, StreamDataBlocked, StreamsBlocked}
use Rattle.qs_conn.specs.declared.filling.Wish.{Wish}
use Rattle.qs_conn.specs.declared.due.Slot.{Slot}
use Rattle.qs_conn.specs.declared.due.Kind.{Kind}
use Rattle.qs_conn.specs.declared.due.Sort.{Sort}
use Rattle.qs_conn.specs.declared.due.Sort.TheVariants as sorts
use Rattle.qs_conn.specs.declared.due.Kind.TheVariants as kinds
use Rattle.qs_conn.specs.declared.limits.Limits.{Limits}
use Rattle.qs_conn.specs.declared.due.Slot.TheVariants as slots
use Rattle.qs_machine.specs.Tables.{Tables, lookup, each}
use Rattle.qs_machine.specs.Ends.{End, Records, Present}
use Rattle.qs_machine.specs.Credit.{all_sent}
use Rattle.qs_machine.specs.Seen.{Seen, Ack, Stream, Control, Close, Plain, seen, seen_all}
use Rattle.qs_machine.specs.Due.{Among, IsCurrent, IsDueItem, StreamGoes}
use Rattle.qs_recv.specs.Lane.{limit_with}
use Rattle.qs_machine.specs.Setting.{count_with}
use Rattle.qs_machine.specs.Outgoing.{Outgoing, HasSending, WantsMore, item_put_out}
use Rattle.qs_machine.specs.Sums.{or_none}
use Rattle.qs_machine.specs.Lawful.{MayAck, Fills, NamesAll, AcksAll, AreInTurn, pieces_so_far}
use Rattle.qs_machine.specs.Making.{IsText, NamesMost}
use Rattle.qs_machine.specs.Filling.{IsAsked, HasWanted, stream_bytes}
use Rattle.qs_machine.specs.InOrder.{IsLower, AreInOrder}
pub use Rattle.qs_conn.specs.Written.{made_text}

-- what an item speaks of
abbrev pub slot_of : Item → Slot
slot_of (MaxData m) = slots.MaxData
slot_of (MaxStreamData n m) = slots.MaxStreamData n
slot_of (MaxStreams d m) = slots.MaxStreams d
slot_of (ResetStream n code size) = slots.ResetStream n
slot_of (StopSending n code) = slots.StopSending n
slot_of (DataBlocked m) = slots.DataBlocked
slot_of (StreamDataBlocked n m) = slots.StreamDataBlocked n
slot_of (StreamsBlocked d m) = slots.StreamsBlocked d

-- the frame that tells an item (RFC 9000, sections 19.4, 19.5 and 19.9 to 19.14)
abbrev pub frame_of_item : Item → FrameValue
frame_of_item (MaxData m) = max_data m
frame_of_item (MaxStreamData n m) = max_stream_data n m
frame_of_item (MaxStreams d m) = max_streams d m
frame_of_item (ResetStream n code size) = reset_stream n code size
frame_of_item (StopSending n code) = stop_sending n code
frame_of_item (DataBlocked m) = data_blocked m
frame_of_item (StreamDataBlocked n m) = stream_data_blocked n m
frame_of_item (StreamsBlocked d m) = streams_blocked d m

-- the windows and grants in force
abbrev pub present_of : Limits → Present
present_of t = record { conn_window = t.conn_window; widest = t.widest; grant_bidi = t.grants.bidi; grant_uni = t.grants.uni }

-- an end of these parts
abbrev pub end_by : Limits → Tables RecvLane → Outgoing → End → End
end_by t recvs o e =
    record e {
      role = t.role;
      settings = t.settings;
      present = present_of t;
      tuning = t.tuning;
      recvs = recvs;
      granted = t.granted;
      granted_bidi = t.granted_streams.bidi;
      granted_uni = t.granted_streams.uni;
      known_data = t.known_data;
      known_bidi = t.known_streams.bidi;
      known_uni = t.known_streams.uni;
      wanted_bidi = t.wanted_streams.bidi;
      wanted_uni = t.wanted_streams.uni;
      sends = o.sends;
      next = o.next;
      outstanding = o.outstanding;
      lost = o.lost;
      acked = o.acked;
    }

-- the current item of a slot; or there is none
abbrev pub IsCurrentIn : End → Slot → Option Item → Type 0
IsCurrentIn e slot None = (j : Item) → slot_of j ≡ slot → IsCurrent e j → ⊥
IsCurrentIn e slot (Some i) = IsCurrent e i × (slot_of i ≡ slot) × ((j : Item) → slot_of j ≡ slot → IsCurrent e j → j ≡ i)

-- the item has a text
abbrev pub ItemFits : Option Item → Type 0
ItemFits None = Unit {0}
ItemFits (Some i) = Fits (frame_of_item i)

-- the limits with another window of the connection, where so much was taken
abbrev pub with_window : (window taken : ℕ) → Limits → Limits
with_window window taken t = record t { granted = limit_with t.conn_window t.granted taken window; conn_window = window; widest = max t.widest window }

-- the limits with another grant of a direction, where so many of its streams ended
abbrev pub with_grant : Dir → (streams ended : ℕ) → Limits → Limits
with_grant Bidi streams ended t =
    record t {
      granted_streams = record t.granted_streams { bidi = count_with t.grants.bidi t.granted_streams.bidi t.settings.lifetime_bidi ended streams };
      grants = record t.grants { bidi = streams };
    }
with_grant Uni streams ended t =
    record t {
      granted_streams = record t.granted_streams { uni = count_with t.grants.uni t.granted_streams.uni t.settings.lifetime_uni ended streams };
      grants = record t.grants { uni = streams };
    }

-- what an end has to tell has a text
pub record LimitsFit (t : Limits) : Type 0 where
  pub granted : t.granted ≤ MAX_VARINT
  pub granted_bidi : t.granted_streams.bidi ≤ 2 ^ 60
  pub granted_uni : t.granted_streams.uni ≤ 2 ^ 60
  pub known : t.known_data ≤ MAX_VARINT
  pub bidi : t.known_streams.bidi ≤ 2 ^ 60
  pub uni : t.known_streams.uni ≤ 2 ^ 60

-- the connection's credit alone holds bytes of some stream back
abbrev pub AnyWantsMore : Tables SendLane → Type 0
AnyWantsMore sends = (n : ℕ) × WantsMore (lookup sends n)

-- the slot of a stream
abbrev pub slot_at : Kind → ℕ → Slot
slot_at kinds.ResetStream n = slots.ResetStream n
slot_at kinds.StopSending n = slots.StopSending n
slot_at kinds.MaxStreamData n = slots.MaxStreamData n
slot_at kinds.StreamDataBlocked n = slots.StreamDataBlocked n

-- a slot's place in a packet's order, of which a bit of a word tells, and its stream (ours, as the order of items is)
abbrev pub slot_place : Slot → ℕ × ℕ
slot_place slots.MaxData = (0, 0)
slot_place (slots.MaxStreams d) = (1 + dir_number d, 0)
slot_place (slots.ResetStream n) = (3, n)
slot_place (slots.StopSending n) = (4, n)
slot_place (slots.MaxStreamData n) = (5, n)
slot_place slots.DataBlocked = (6, 0)
slot_place (slots.StreamDataBlocked n) = (7, n)
slot_place (slots.StreamsBlocked d) = (8 + dir_number d, 0)

-- the next place behind a slot's
abbrev pub slot_past : Slot → ℕ × ℕ
slot_past slots.MaxData = (1, 0)
slot_past (slots.MaxStreams d) = (2 + dir_number d, 0)
slot_past (slots.ResetStream n) = (3, n + 1)
slot_past (slots.StopSending n) = (4, n + 1)
slot_past (slots.MaxStreamData n) = (5, n + 1)
slot_past slots.DataBlocked = (7, 0)
slot_past (slots.StreamDataBlocked n) = (7, n + 1)
slot_past (slots.StreamsBlocked d) = (9 + dir_number d, 0)

-- the first place of a kind, and the next one behind all of it
abbrev pub kind_first : Kind → ℕ × ℕ
kind_first kind = slot_place (slot_at kind 0)

abbrev pub kind_past : Kind → ℕ × ℕ
kind_past kind = ((kind_first kind).0 + 1, 0)

-- the first place, and the next one behind all slots
abbrev pub no_slot : ℕ × ℕ
no_slot = (0, 0)

abbrev pub all_items : ℕ × ℕ
all_items = (10, 0)

-- the place of a sort of items
abbrev pub sort_place : Sort → ℕ
sort_place (sorts.Own slot) = (slot_place slot).0
sort_place (sorts.Streams kind) = (kind_first kind).0

-- a slot comes before a place
abbrev pub IsPassed : ℕ × ℕ → Slot → Type 0
IsPassed at s = IsLower (slot_place s) at

-- there is room for a piece of two bytes or more for each that may come
abbrev pub HasSpare : ℕ → ℕ → ℕ → Type 0
HasSpare room len spare = room ≤ len + 2 * spare + 1

-- there is memory for a piece of two bytes or more, if there is room for one
abbrev pub HasOneSpare : ℕ → ℕ → ℕ → Type 0
HasOneSpare room len spare = len + 2 ≤ room → 0 < spare

-- there are no fewer bytes than there were, and behind them the slice is as it was
abbrev pub LeavesRest : (len : ℕ) → (before : List ℕ) → (end : ℕ) → (after : List ℕ) → Type 0
LeavesRest len before end after = (len ≤ end) × (drop end after ≡ drop end before)

-- an item went in behind the bytes that were there, or didn't fit
abbrev pub PutsItem : Item → List ℕ → ℕ → Outgoing → List ℕ → ℕ → Outgoing → Bool → Type 0
PutsItem item before len old after end new false = (take end after ≡ take len before ++ canonical (frame_of_item item)) × (new ≡ item_put_out item old)
PutsItem item before len old after end new true =
    (end ≡ len) × (after ≡ before) × (new ≡ old) × (length before - len < length (canonical (frame_of_item item)))

-- the lane without the mark that a STREAM_DATA_BLOCKED was sent
abbrev pub unmarked : SendLane → SendLane
unmarked l = record l { blocked_sent = false }

-- the end without what control items and an ACK change
abbrev pub base : End → End
base e = record e { sends = each unmarked e.sends; outstanding = fmap.empty; ack_due = false }

-- the piece stands in the packet that is being made
abbrev pub InPacket : End → Piece → Type 0
InPacket e x = Among x (pieces_so_far e e.next)

-- the pieces of a packet in these records
abbrev pub pieces_at : Records → ℕ → List Piece
pieces_at m k = elim (fmap.get m k) [ None ↦ [] | Some ps ↦ ps ]

-- the stream of a chunk; of an item what was before
abbrev pub data_or : Option ℕ → Piece → Option ℕ
data_or last (Data n c) = Some n
data_or last (Told i) = last

-- the stream of the last chunk among pieces, or, where there is none, what was before
abbrev pub last_data : Option ℕ → List Piece → Option ℕ
last_data last [] = last
last_data last (p ∷ ps) = last_data (data_or last p) ps

-- the frame is of a kind that the packet is to hold
abbrev pub IsWished : Wish → Seen → Type 0
IsWished wish (Ack largest ranges) = wish.ack_due ≡ true
IsWished wish (Stream n offset bytes fin) = IsAsked wish.want n
IsWished wish (Control i) = wish.want.items ≡ true
IsWished wish (Close code) = ⊥
IsWished wish (Plain asks) = ⊥

-- it has all that it is to hold
pub record HasWished (wish : Wish) (old : End) (frames : List Seen) (new : End) : Type 0 where
  pub ack : wish.ack_due ≡ true → AcksAll old frames
  pub wanted : HasWanted wish.want old frames new

-- an ACK is due still, where none was to go, and else no more
abbrev pub IsAckLeft : Bool → (due left : Bool) → Type 0
IsAckLeft true due left = (due ≡ true) × (left ≡ false)
IsAckLeft false due left = left ≡ due

-- The frames of a packet so far, what they make of the end, and that each may stand in it.
pub record Framed (wish : Wish) (room : ℕ) (old : End) (text : List ℕ) (e : End) : Type 0 where
  pub frames : List FrameValue
  pub fills : Fills old old (seen_all frames) e
  pub spells : IsText wish.delay frames text
  pub acks : AllByRecursion (NamesMost old wish.delay room) frames
  pub wished : AllByRecursion (IsWished wish) (seen_all frames)
  pub ack : wish.ack_due ≡ true → (room < length text + 25) ⊎ AcksAll old (seen_all frames)

-- A packet so far: an ACK and control items, in order. Of the slots that were passed, all that was due is in it.
pub record Begun (wish : Wish) (room : ℕ) (old : End) (text : List ℕ) (e : End) (P : Slot → Type 0) : Type 0 where
  pub asked : wish.want.items ≡ true
  pub framed : Framed wish room old text e
  pub turns : (first : ℕ) → AreInTurn first old (seen_all framed.frames)
  pub order : AreInOrder old [] (pieces_so_far e e.next)
  pub steady : base e ≡ base old
  pub within : all_sent old ≤ old.known_data
  pub items : (i : Item) → P (slot_of i) → IsDueItem old i → Among (Control i) (seen_all framed.frames)
  pub no_chunk : (n : ℕ) (c : Chunk) → InPacket e (Data n c) → ⊥
  pub no_byte : stream_bytes (seen_all framed.frames) ≡ 0

-- How far the turns of streams are, that begin at `first`: those from there on and below `at` had theirs; or, on the way around, all
-- those and the ones below `at`.
pub record Turn : Type 0 where
  pub around : Bool
  pub first : ℕ
  pub at : ℕ

abbrev pub turn_at : Bool → (first at : ℕ) → Turn
turn_at around first at = record { around = around; first = first; at = at }

abbrev pub HadTurn : Bool → (first at n : ℕ) → Type 0
HadTurn false first at n = (first ≤ n) × (n < at)
HadTurn true first at n = (first ≤ n) ⊎ (n < at)

-- the stream is one of this way
abbrev pub IsOnWay : Bool → (first n : ℕ) → Type 0
IsOnWay false first n = first ≤ n
IsOnWay true first n = n < first

-- where the way begins
abbrev pub start_of : Bool → ℕ → ℕ
start_of false first = first
start_of true first = 0

-- the turns once each stream of the way had its own
abbrev pub way_end : Bool → ℕ → Turn
way_end false first = turn_at true first 0
way_end true first = turn_at true first first

-- A packet so far, with so many bytes of streams left of the cap.
pub record Content (first : ℕ) (wish : Wish) (room : ℕ) (old : End) (text : List ℕ) (e : End) (quota : ℕ) : Type 0 where
  pub framed : Framed wish room old text e
  pub cap : stream_bytes (seen_all framed.frames) + quota ≡ wish.want.most_bytes
  pub turns : AreInTurn first old (seen_all framed.frames)
  pub order : wish.want.items ≡ true → AreInOrder old [] (pieces_so_far e e.next)
  pub within : all_sent e ≤ e.known_data

-- The same, with all control items that were due and are asked for, before the bytes of streams.
pub record WithItems (first : ℕ) (wish : Wish) (room : ℕ) (old : End) (text : List ℕ) (e : End) (quota : ℕ) : Type 0 where
  pub begins : first ≡ wish.want.first
  pub content : Content first wish room old text e quota
  pub items : wish.want.items ≡ true → (i : Item) → IsDueItem old i → Among (Control i) (seen_all content.framed.frames)

-- The same, where streams that had their turn have nothing to send any more; of the others nothing is in it.
pub record Flowing (wish : Wish) (room : ℕ) (old : End) (text : List ℕ) (e : End) (quota : ℕ) (t : Turn) : Type 0 where
  pub so_far : WithItems t.first wish room old text e quota
  pub over : (n : ℕ) → HadTurn t.around t.first t.at n → StreamGoes e n → ⊥
  pub untouched : (n : ℕ) → (HadTurn t.around t.first t.at n → ⊥) → (c : Chunk) → InPacket e (Data n c) → ⊥

-- A packet that needs no more: it has all that the cap of bytes lets in, or no room for an item more.
pub record Packed (first : ℕ) (wish : Wish) (room : ℕ) (old : End) (text : List ℕ) (e : End) (quota : ℕ) : Type 0 where
  pub content : Content first wish room old text e quota
  pub whole : length text + 25 ≤ room → HasWished wish old (seen_all content.framed.frames) e

-- The same of one that all went into that may of the streams that are asked for, or that is full.
pub record PackedBy (first : ℕ) (wish : Wish) (room : ℕ) (old : End) (text : List ℕ) (e : End) (quota : ℕ) (full : Bool) : Type 0 where
  pub packed : Packed first wish room old text e quota
  pub over : full ≡ false → (n : ℕ) → IsAsked wish.want n → StreamGoes e n → ⊥

-- a packet with the streams that had their turn, or one that is full
abbrev pub Flow : (wish : Wish) (room : ℕ) → End → List ℕ → End → (quota : ℕ) → Bool → Turn → Type 0
Flow wish room old text e quota true t = Packed t.first wish room old text e quota
Flow wish room old text e quota false t = Flowing wish room old text e quota t

-- a packet so far, or one that is full
abbrev pub Stage : (wish : Wish) (room : ℕ) → End → List ℕ → End → Bool → ℕ × ℕ → Type 0
Stage wish room old text e true at = (first : ℕ) → Packed first wish room old text e wish.want.most_bytes
Stage wish room old text e false at = Begun wish room old text e (IsPassed at)

-- the frame of a chunk, with the written bytes
abbrev pub stream_frame : Outgoing → ℕ → Chunk → FrameValue
stream_frame o n c = stream n c.offset c.fin (bytes_of (or_none (lookup o.sends n)) c)

-- a chunk that is due, whose bytes are kept, and whose frame fits the room
pub record MayGo (o : Outgoing) (n : ℕ) (c : Chunk) (room : ℕ) : Type 0 where
  pub half : Sending
  pub there : HasSending o n half
  pub chunk : IsDueChunk half c
  pub has : HasBytes half.lane c
  pub fits : frame_len n c.offset c.len ≤ room

-- the text of an ACK alone, of as many kept numbers as the room lets it name
pub record IsAckText (delay room : ℕ) (old : End) (text : List ℕ) : Type 0 where
  pub frame : FrameValue
  pub spells : IsText delay (frame ∷ []) text
  pub most : NamesMost old delay room frame
  pub largest : ℕ
  pub ranges : List (ℕ × ℕ)
  pub is : seen frame ≡ Ack largest ranges
  pub may : MayAck old old largest ranges
  pub full : (room < length text + 25) ⊎ NamesAll old ranges
