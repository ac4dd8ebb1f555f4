-- Trusted.
-- Reading from left to right, with the first fault that is met (RFC 9000, sections 12.4, 16 and 19, for the whole file).
use Rattle.std.specs.Prelude.{◌≡◌, Bool, ℕ, zero, suc, ◌+◌, ◌-◌, ◌*◌, ◌^◌, List, [], ◌∷◌, length, take, drop, Option, Some, None, Result, Ok, Err, nat_lt, nat_le, ◌==◌, ◌&&◌, if◌then◌else◌}
use Rattle.qs_wire.specs.declared.fault.FaultKind.{FaultKind}
use Rattle.qs_wire.specs.declared.fault.FaultKind.TheVariants.{Empty, LongType, UnknownType, Truncated, OffsetTooLarge, CountTooLarge, BelowZero, IdentifierLength}
use Rattle.qs_wire.specs.declared.fault.WireFault.{WireFault}
use Rattle.qs_wire.specs.declared.frame.EcnCounts.{EcnCounts}
use Rattle.qs_wire.specs.declared.frame.Placed.{Placed}
use Rattle.qs_wire.specs.declared.frame_type.FrameType.{FrameType}
use Rattle.qs_wire.specs.declared.reading.Broken.{Broken}
use Rattle.qs_wire.specs.Faults.{code_of}
use Rattle.qs_wire.specs.Varint.{varint_at, short_len}
use Rattle.qs_wire.specs.Layout.{FrameValue, PlacedValue, taken, stream, crypto, ack, max_streams, streams_blocked, view, Field, number, number_if, counted, counted_if, plain, identifier, ack_ranges, ecn_if, Value, Values, layout, frame_of, type_of}

infixl 10 ◌>>=◌
abbrev pub ◌>>=◌ : {A B E : Type 0} → Result A E → (A → Result B E) → Result B E
(Ok x) >>= f = f x
(Err e) >>= f = Err e

-- What a function returned, seen by `seen`, is what reading gives.
abbrev pub Gives : {X Y E : Type 0} → (X → Y) → Result X E → Result Y E → Type 0
Gives seen (Ok x) read = read ≡ Ok (seen x)
Gives seen (Err e) read = read ≡ Err e

-- A field is a value and the bytes after it.
abbrev pub split_number : Option (ℕ × ℕ) → List ℕ → Result (ℕ × List ℕ) FaultKind
split_number None bytes = Err Truncated
split_number (Some x) bytes = Ok (x.0, drop x.1 bytes)

unfoldable pub number_at : List ℕ → Result (ℕ × List ℕ) FaultKind
number_at bytes = split_number (varint_at bytes) bytes

-- so many bytes
unfoldable pub plain_at : ℕ → List ℕ → Result (List ℕ × List ℕ) FaultKind
plain_at n bytes = if nat_lt (length bytes) n then Err Truncated else Ok (take n bytes, drop n bytes)

unfoldable pub counted_at : List ℕ → Result (List ℕ × List ℕ) FaultKind
counted_at bytes = do
  n ← number_at bytes
  plain_at n.0 n.1

-- the length byte is judged before the bytes behind it
unfoldable pub identifier_at : List ℕ → Result (List ℕ × List ℕ) FaultKind
identifier_at [] = Err Truncated
identifier_at (n ∷ bytes) = if nat_le 1 n && nat_le n 20 then plain_at n bytes else Err IdentifierLength

-- so many numbers
unfoldable pub numbers_at : ℕ → List ℕ → Result (List ℕ × List ℕ) FaultKind
numbers_at zero bytes = Ok ([], bytes)
numbers_at (suc n) bytes = do
  v ← number_at bytes
  vs ← numbers_at n v.1
  Ok (v.0 ∷ vs.0, vs.1)

unfoldable pub ranges_at : List ℕ → Result (List ℕ × List ℕ) FaultKind
ranges_at bytes = do
  n ← number_at bytes
  numbers_at (2 * n.0 + 1) n.1

-- three counts
unfoldable pub counts_at : List ℕ → Result (Option EcnCounts × List ℕ) FaultKind
counts_at bytes = do
  x ← number_at bytes
  y ← number_at x.1
  z ← number_at y.1
  Ok (Some (record { ect0 = x.0; ect1 = y.0; ce = z.0 }), z.1)

abbrev pub field_at : (f : Field) → List ℕ → Result (Value f × List ℕ) FaultKind
field_at number bytes = number_at bytes
field_at (number_if flag) bytes = if flag then number_at bytes else Ok (0, bytes)
field_at counted bytes = counted_at bytes
field_at (counted_if flag) bytes = if flag then counted_at bytes else Ok (bytes, [])
field_at (plain n) bytes = plain_at n bytes
field_at identifier bytes = identifier_at bytes
field_at ack_ranges bytes = ranges_at bytes
field_at (ecn_if flag) bytes = if flag then counts_at bytes else Ok (None, bytes)

abbrev pub fields_at : (fs : List Field) → List ℕ → Result (Values fs × List ℕ) FaultKind
fields_at [] bytes = Ok (tt, bytes)
fields_at (f ∷ fs) bytes = do
  v ← field_at f bytes
  vs ← fields_at fs v.1
  Ok ((v.0, vs.0), vs.1)

-- the frame of a type
unfoldable pub body_at : FrameType → List ℕ → Result (FrameValue × List ℕ) FaultKind
body_at t bytes = do
  vs ← fields_at (layout t) bytes
  Ok (frame_of t vs.0, vs.1)

-- what a frame's values break
abbrev pub breach_of : FrameValue → Option FaultKind
breach_of (stream s o fin bytes) = if nat_lt (o + length bytes) (2 ^ 62) then None else Some OffsetTooLarge
breach_of (crypto o bytes) = if nat_lt (o + length bytes) (2 ^ 62) then None else Some OffsetTooLarge
breach_of (ack largest delay ranges ecn) = if nat_lt (largest + 1) (taken ranges) then Some BelowZero else None
breach_of (max_streams dir count) = if nat_lt (2 ^ 60) count then Some CountTooLarge else None
breach_of (streams_blocked dir count) = if nat_lt (2 ^ 60) count then Some CountTooLarge else None
breach_of _ = None

-- the error of a step, with the frame type
abbrev pub typed : {A : Type 0} → ℕ → Result A FaultKind → Result A Broken
typed t (Ok x) = Ok x
typed t (Err kind) = Err (record { kind = kind; frame_type = t })

abbrev pub broken : {A : Type 0} → FaultKind → ℕ → Result A Broken
broken kind t = Err (record { kind = kind; frame_type = t })

-- a frame type, which has to be short
abbrev pub split_type : Option (ℕ × ℕ) → List ℕ → Result (ℕ × List ℕ) Broken
split_type None bytes = broken Truncated 0
split_type (Some x) bytes = if x.1 == short_len x.0 then Ok (x.0, drop x.1 bytes) else broken LongType x.0

unfoldable pub number_of_type_at : List ℕ → Result (ℕ × List ℕ) Broken
number_of_type_at bytes = split_type (varint_at bytes) bytes

abbrev pub known_type : ℕ → Option FrameType → Result FrameType Broken
known_type t None = broken UnknownType t
known_type t (Some type) = Ok type

abbrev pub checked : ℕ → FrameValue × List ℕ → Option FaultKind → Result (ℕ × FrameValue × List ℕ) Broken
checked t x None = Ok (t, x.0, x.1)
checked t x (Some kind) = broken kind t

-- the frame that begins the bytes behind the number of its type, and the bytes after it
unfoldable pub frame_at : List ℕ → Result (ℕ × FrameValue × List ℕ) Broken
frame_at bytes = do
  t ← number_of_type_at bytes
  type ← known_type t.0 (type_of t.0)
  x ← typed t.0 (body_at type t.1)
  checked t.0 x (breach_of x.0)

abbrev pub view_placed : Placed → PlacedValue
view_placed p = record { place = p.place; frame = view p.frame; frame_type = p.frame_type }

-- The frames still to be read, and the fault that follows them, if one does.
pub record Reading : Type 0 where
  pub left : List PlacedValue
  pub fault : Option WireFault

abbrev pub fault_at : ℕ → Broken → WireFault
fault_at place b = record { kind = b.kind; place = place; code = code_of b.kind; frame_type = b.frame_type }

abbrev pub with_first : PlacedValue → Reading → Reading
with_first p r = record { left = p ∷ r.left; fault = r.fault }

abbrev pub placed_at : ℕ → ℕ → FrameValue → PlacedValue
placed_at place type frame = record { place = place; frame = frame; frame_type = type }

-- Where `next_stream` gives nothing, no STREAM frame is next.
abbrev pub NoStreamNext : Reading → Type 0
NoStreamNext old = (place type id offset : ℕ) (fin : Bool) (bytes : List ℕ) (more : Reading) → old ≡ with_first (placed_at place type (stream id offset fin bytes)) more → ⊥

abbrev pub one_frame : ℕ → List ℕ → (ℕ → List ℕ → Reading) → Result (ℕ × FrameValue × List ℕ) Broken → Reading
one_frame place bytes more (Ok x) = with_first (placed_at place x.0 x.1) (more (place + (length bytes - length x.2)) x.2)
one_frame place bytes more (Err b) = record { left = []; fault = Some (fault_at place b) }

-- at most so many frames
unfoldable pub frames_at : ℕ → ℕ → List ℕ → Reading
frames_at n place [] = record { left = []; fault = None }
frames_at zero place (b ∷ bs) = record { left = []; fault = None }
frames_at (suc n) place (b ∷ bs) = one_frame place (b ∷ bs) (frames_at n) (frame_at (b ∷ bs))

-- The frames from a place on, of which the bytes are left. Where nothing was read there has to be one.
unfoldable pub reading_from : ℕ → List ℕ → Reading
reading_from zero [] = record { left = []; fault = Some (fault_at 0 (record { kind = Empty; frame_type = 0 })) }
reading_from place bytes = frames_at (length bytes) place bytes

abbrev pub reading_of : List ℕ → Reading
reading_of payload = reading_from 0 payload

-- What a call of `next` returns and leaves, where the frames left were `old`.
abbrev pub Next : Reading → Result (Option Placed) WireFault → Reading → Type 0
Next old (Ok (Some p)) new = old ≡ with_first (view_placed p) new
Next old (Ok None) new = (old ≡ record { left = []; fault = None }) × (new ≡ old)
Next old (Err e) new = (old ≡ record { left = []; fault = Some e }) × (new ≡ old)
