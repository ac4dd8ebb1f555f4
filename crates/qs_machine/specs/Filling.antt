-- Trusted.
-- What is due as frames without an ACK, for a packet of a stack that owns its packets (RFC 9000, sections 12.4 and 13.3).
use Rattle.std.specs.Prelude.{◌≡◌, ℕ, zero, suc, ◌+◌, ◌-◌, ◌<◌, ◌≤◌, true, false, List, [], ◌∷◌, length, ◌⊎◌, ◌↔◌, Option, None, Some, Result, Ok, Err}
use Rattle.std.specs.List.{AllByRecursion}
use Rattle.qs_wire.specs.LastStream.{last_stream_of}
use Rattle.qs_send.specs.Lane.{SendLane}
use Rattle.qs_send.specs.declared.piece.Item.{Item}
use Rattle.qs_calls.specs.declared.filling.Fill.{Fill}
use Rattle.qs_calls.specs.declared.filling.Filled.{Filled}
use Rattle.qs_calls.specs.declared.making.Made.{Made}
use Rattle.qs_calls.specs.declared.making.MakeFault.{MakeFault}
use Rattle.qs_calls.specs.declared.making.MakeFault.TheVariants as making
use Rattle.qs_machine.specs.Ends.{End, send_lane}
use Rattle.qs_machine.specs.Seen.{Seen, Ack, Stream, Control, Close, Plain, seen_all}
use Rattle.qs_machine.specs.Due.{Among, IsDueItem, ByteGoes, EndGoes, StreamGoes}
use Rattle.qs_machine.specs.Lawful.{ComesBefore}
use Rattle.qs_machine.specs.Making.{IsMade, make_refusal}
use Rattle.qs_machine.specs.Alone.{token_of}

-- bytes and the end of the stream are asked for (ours: RFC 9000, section 2.3, leaves the choice of streams to the owner)
abbrev pub IsAsked : Fill → ℕ → Type 0
IsAsked want n = (want.streams ≡ true) × ((want.alone ≡ false) ⊎ (n ≡ want.first))

-- the frame is of a kind that is asked for: never an ACK (RFC 9000, section 12.4)
abbrev pub IsWanted : Fill → Seen → Type 0
IsWanted want (Ack largest ranges) = ⊥
IsWanted want (Stream n offset bytes fin) = IsAsked want n
IsWanted want (Control i) = want.items ≡ true
IsWanted want (Close code) = ⊥
IsWanted want (Plain asks) = ⊥

-- something that is asked for is due, and no limit holds it back (RFC 9000, sections 4 and 13.3); the cap of bytes is none of these
abbrev pub WantedGoes : Fill → End → Type 0
WantedGoes want e = ((want.items ≡ true) × ((i : Item) × IsDueItem e i)) ⊎ ((n : ℕ) × IsAsked want n × StreamGoes e n)

-- how many bytes of a stream a frame has (RFC 9000, section 19.8)
abbrev pub bytes_in : Seen → ℕ
bytes_in (Ack largest ranges) = 0
bytes_in (Stream n offset bytes fin) = length bytes
bytes_in (Control i) = 0
bytes_in (Close code) = 0
bytes_in (Plain asks) = 0

-- and all frames of a packet (RFC 9000, section 19.8)
abbrev pub stream_bytes : List Seen → ℕ
stream_bytes [] = 0
stream_bytes (f ∷ fs) = bytes_in f + stream_bytes fs

-- how many more the cap lets in (ours: RFC 9000, section 2.3, leaves to the owner how many bytes of streams go)
abbrev pub bytes_left : Fill → List Seen → ℕ
bytes_left want frames = want.most_bytes - stream_bytes frames

-- Of the stream its end may go, without a byte, and no stream that comes before it has anything that may (RFC 9000, section 19.8).
pub record EndGoesAlone (first : ℕ) (e : End) (n : ℕ) : Type 0 where
  pub half : SendLane
  pub lane : send_lane e n ≡ Some half
  pub end : EndGoes e n half
  pub no_byte : ByteGoes e n half → ⊥
  pub in_turn : (m : ℕ) → ComesBefore first m n → StreamGoes e m → ⊥

-- something of the stream may go with so many bytes at most; with none, its end alone, in its turn (ours: RFC 9000, section 2.3, leaves
-- this to the owner)
abbrev pub GoesWithin : (left first : ℕ) → End → ℕ → Type 0
GoesWithin left first e n = ((0 < left) × StreamGoes e n) ⊎ EndGoesAlone first e n

-- all that is asked for and was due as the call began is in, and no stream that is asked for can send more within the cap of bytes (ours:
-- RFC 9000, section 13, leaves open how far a packet is filled)
pub record HasWanted (want : Fill) (old : End) (frames : List Seen) (new : End) : Type 0 where
  pub items : want.items ≡ true → (i : Item) → IsDueItem old i → Among (Control i) frames
  pub streams : (n : ℕ) → IsAsked want n → GoesWithin (bytes_left want frames) want.first new n → ⊥

-- what is asked for still, where so many bytes are left of the cap: with none, no stream (ours: RFC 9000, section 2.3, leaves it to the
-- owner)
abbrev pub still_asked : Fill → ℕ → Fill
still_asked want zero = record want { streams = false }
still_asked want (suc left) = want

-- the packet that has these frames alone: no ACK goes with them, so it asks for one (RFC 9000, section 13.2.1)
abbrev pub as_made : Filled → Made
as_made filled = record { number = filled.token.number; len = filled.len; is_ack_eliciting = true }

-- A packet was made that has no more room than its frames take, all of them of kinds that are asked for (RFC 9000, sections 12.4 and 13.3).
pub record IsFilled (old : End) (want : Fill) (room : ℕ) (filled : Filled) (text : List ℕ) (new : End) : Type 0 where
  pub made : IsMade old want.first 0 (length text) (as_made filled) text new
  pub token : filled.token ≡ token_of old old.next
  pub fits : length text ≤ room
  pub wanted : AllByRecursion (IsWanted want) (seen_all made.frames)
  pub capped : stream_bytes (seen_all made.frames) ≤ want.most_bytes
  -- where 25 bytes are left, all that could go in did: no single item needs more
  pub whole : length text + 25 ≤ room → HasWanted want old (seen_all made.frames) made.mid
  pub last_stream : filled.last_stream ≡ last_stream_of None made.frames
  -- whether something that is asked for may go still; what the cap of bytes holds back isn't counted
  pub more : (filled.more ≡ true) ↔ WantedGoes (still_asked want (bytes_left want (seen_all made.frames))) new

-- frames were filled in; or no frame has all that is asked for and may go, or the room has fewer than 25 bytes; or something may go, the
-- cap of bytes apart, and memory was refused (RFC 9000, section 13.3)
abbrev pub FillBy : End → Fill → (room : ℕ) → Result (Option Filled) MakeFault → List ℕ → End → Type 0
FillBy old want room (Ok (Some filled)) text new = IsFilled old want room filled text new
FillBy old want room (Ok None) text new = (25 ≤ room → HasWanted want old [] old) × (text ≡ []) × (new ≡ old)
FillBy old want room (Err making.NoMemory) text new = WantedGoes want old × (text ≡ []) × (new ≡ old)
FillBy old want room (Err fault) text new = ⊥

-- an end that closed fills nothing, nor one that used the last number (RFC 9000, sections 10.2 and 12.3)
abbrev pub FillAt : Option MakeFault → End → Fill → (room : ℕ) → Result (Option Filled) MakeFault → List ℕ → End → Type 0
FillAt (Some fault) old want room answer text new = (answer ≡ Err fault) × (text ≡ []) × (new ≡ old)
FillAt None old want room answer text new = FillBy old want room answer text new

-- `fill` into a slice of that size, with the bytes that it writes (RFC 9000, section 12.4)
abbrev pub FillStep : End → Fill → (room : ℕ) → Result (Option Filled) MakeFault → List ℕ → End → Type 0
FillStep old want room answer text new = FillAt (make_refusal old) old want room answer text new
