-- Trusted.
-- Which bytes are which frames (RFC 9000, sections 12.4 and 19, for the whole file).
use Rattle.std.specs.Prelude.{◌≡◌, ◌≢◌, ℕ, ◌+◌, ◌-◌, ◌*◌, ◌/◌, ◌^◌, ◌<◌, ◌≤◌, ◌⊎◌, true, false, List, [], ◌∷◌, ◌++◌, length, map, Option, Some, None, is_some, nat_lt, if◌then◌else◌}
use Rattle.std.specs.List.{flat_map, AllByRecursion}
use Rattle.qs_wire.specs.declared.fault.FaultKind.{FaultKind}
use Rattle.qs_wire.specs.declared.fault.FaultKind.TheVariants.{Empty, LongType, UnknownType, Truncated, OffsetTooLarge, CountTooLarge, BelowZero, IdentifierLength}
use Rattle.qs_wire.specs.declared.fault.WireFault.{WireFault}
use Rattle.qs_wire.specs.declared.frame.EcnCounts.{EcnCounts}
use Rattle.qs_wire.specs.declared.frame_type.FrameType.{FrameType}
use Rattle.qs_wire.specs.declared.frame_type.FrameType.TheVariants.{Padding, Ping, Ack, ResetStream, StopSending, Crypto, NewToken, Stream, MaxData, MaxStreamData, MaxStreams, DataBlocked, StreamDataBlocked, StreamsBlocked, NewConnectionId, RetireConnectionId, PathChallenge, PathResponse, ConnectionClose, ApplicationClose, HandshakeDone}
use Rattle.qs_wire.specs.Faults.{code_of}
use Rattle.qs_wire.specs.Varint.{Spells, short}
use Rattle.qs_wire.specs.Layout.{FrameValue, PlacedValue, taken, padding, ping, ack, reset_stream, stop_sending, crypto, new_token, stream, max_data, max_stream_data, max_streams, data_blocked, stream_data_blocked, streams_blocked, new_connection_id, retire_connection_id, path_challenge, path_response, connection_close, application_close, handshake_done, Field, number, number_if, counted, counted_if, plain, identifier, ack_ranges, ecn_if, Value, Values, layout, frame_of, number_of_type}

-- bytes as numbers
abbrev pub AreBytes : List ℕ → Type 0
AreBytes bytes = AllByRecursion (λ b. b < 256) bytes

-- a number, and as many bytes
abbrev pub CountedText : List ℕ → List ℕ → Type 0
CountedText v bytes = (front : List ℕ) × Spells (length v) front × (bytes ≡ front ++ v)

-- the numbers, one after the other
abbrev pub NumbersText : List ℕ → List ℕ → Type 0
NumbersText [] bytes = bytes ≡ []
NumbersText (v ∷ vs) bytes = (front : List ℕ) × (back : List ℕ) × (bytes ≡ front ++ back) × Spells v front × NumbersText vs back

-- a number n, and 2 n + 1 numbers more
abbrev pub RangesText : List ℕ → List ℕ → Type 0
RangesText vs bytes = (n : ℕ) × (front : List ℕ) × (back : List ℕ) × (bytes ≡ front ++ back) × (length vs ≡ 2 * n + 1) × Spells n front × NumbersText vs back

-- the three counts, one after the other (RFC 9000, section 19.3.2)
abbrev pub counts_of : EcnCounts → List ℕ
counts_of c = c.ect0 ∷ c.ect1 ∷ c.ce ∷ []

abbrev pub EcnText : Option EcnCounts → List ℕ → Type 0
EcnText None bytes = ⊥
EcnText (Some c) bytes = NumbersText (counts_of c) bytes

-- how many bytes a connection identifier may have (RFC 9000, section 19.15)
abbrev pub IsIdentifierLength : ℕ → Type 0
IsIdentifierLength n = (1 ≤ n) × (n ≤ 20)

-- The bytes are a field of that value, where `after` follows them in the payload.
abbrev pub FieldText : (f : Field) → Value f → List ℕ → List ℕ → Type 0
FieldText number v bytes after = Spells v bytes
FieldText (number_if true) v bytes after = Spells v bytes
FieldText (number_if false) v bytes after = (v ≡ 0) × (bytes ≡ [])
FieldText counted v bytes after = CountedText v bytes
FieldText (counted_if true) v bytes after = CountedText v bytes
FieldText (counted_if false) v bytes after = (bytes ≡ v) × (after ≡ [])
FieldText (plain n) v bytes after = (length v ≡ n) × (bytes ≡ v)
FieldText identifier v bytes after = IsIdentifierLength (length v) × (bytes ≡ length v ∷ v)
FieldText ack_ranges v bytes after = RangesText v bytes
FieldText (ecn_if true) v bytes after = EcnText v bytes
FieldText (ecn_if false) v bytes after = (v ≡ None) × (bytes ≡ [])

-- the fields one after the other
abbrev pub FieldsText : (fs : List Field) → Values fs → List ℕ → List ℕ → Type 0
FieldsText [] vs bytes after = bytes ≡ []
FieldsText (f ∷ fs) vs bytes after =
    (front : List ℕ) × (back : List ℕ) × (bytes ≡ front ++ back) × FieldText f vs.0 front (back ++ after) × FieldsText fs vs.1 back after

-- The bytes have the frame's shape: a short type and its fields, where `after` follows in the payload.
pub record ShapeText (frame : FrameValue) (bytes after : List ℕ) : Type 0 where
  pub type : FrameType
  pub values : Values (layout type)
  pub body : List ℕ
  pub parts : bytes ≡ short (number_of_type type) ++ body
  pub fields : FieldsText (layout type) values body after
  pub is_frame : frame_of type values ≡ frame

-- what a frame's values have to meet
abbrev pub Meets : FrameValue → Type 0
Meets (stream s o fin bytes) = o + length bytes < 2 ^ 62
Meets (crypto o bytes) = o + length bytes < 2 ^ 62
-- all that is taken from the largest number, but for one at the first range
Meets (ack largest delay ranges ecn) = taken ranges ≤ largest + 1
Meets (max_streams dir count) = count ≤ 2 ^ 60
Meets (streams_blocked dir count) = count ≤ 2 ^ 60
Meets _ = Unit {0}

-- The bytes are a text of the frame, where `after` follows in the payload.
abbrev pub FrameText : FrameValue → List ℕ → List ℕ → Type 0
FrameText frame bytes after = ShapeText frame bytes after × Meets frame

-- Texts of the frames stand in the bytes from a place on, one after the other, each with its place and
-- the number of its type, and the rest follows them.
abbrev pub Begin : ℕ → List PlacedValue → List ℕ → List ℕ → Type 0
Begin place [] bytes rest = bytes ≡ rest
Begin place (p ∷ ps) bytes rest =
    (text : List ℕ) × (after : List ℕ) × (bytes ≡ text ++ after) × (p.place ≡ place)
    × (frame : FrameText p.frame text after) × (p.frame_type ≡ number_of_type frame.0.type) × Begin (place + length text) ps after rest

abbrev pub frames_of : List PlacedValue → List FrameValue
frames_of ps = map (λ p. p.frame) ps

-- the bytes are a payload of these frames, each at its place
abbrev pub PlacedText : List PlacedValue → List ℕ → Type 0
PlacedText ps bytes = (0 < length ps) × Begin 0 ps bytes []

-- the bytes are a payload of these frames
abbrev pub PayloadText : List FrameValue → List ℕ → Type 0
PayloadText frames bytes = (ps : List PlacedValue) × PlacedText ps bytes × (frames_of ps ≡ frames)

-- ---- faults

abbrev pub NoNumber : List ℕ → Type 0
NoNumber bytes = (v : ℕ) (text after : List ℕ) → bytes ≡ text ++ after → Spells v text → ⊥

abbrev pub NoShape : List ℕ → Type 0
NoShape bytes = (frame : FrameValue) (text after : List ℕ) → bytes ≡ text ++ after → ShapeText frame text after → ⊥

abbrev pub NoFrame : List ℕ → Type 0
NoFrame bytes = (frame : FrameValue) (text after : List ℕ) → bytes ≡ text ++ after → FrameText frame text after → ⊥

-- no identifier has the length that the byte names
abbrev pub FieldBad : Field → List ℕ → Type 0
FieldBad identifier bytes = (n : ℕ) × (after : List ℕ) × (bytes ≡ n ∷ after) × ((n ≡ 0) ⊎ (20 < n))
FieldBad _ bytes = ⊥

-- fields stand there up to an identifier's length byte, which no identifier has
abbrev pub FieldsBad : List Field → List ℕ → Type 0
FieldsBad [] bytes = ⊥
FieldsBad (f ∷ fs) bytes =
    FieldBad f bytes ⊎ ((v : Value f) × (front : List ℕ) × (back : List ℕ) × (bytes ≡ front ++ back) × FieldText f v front back × FieldsBad fs back)

-- the values break the rule of that kind
abbrev pub Breaks : FaultKind → FrameValue → Type 0
Breaks OffsetTooLarge (stream s o fin bytes) = 2 ^ 62 ≤ o + length bytes
Breaks OffsetTooLarge (crypto o bytes) = 2 ^ 62 ≤ o + length bytes
Breaks CountTooLarge (max_streams dir count) = 2 ^ 60 < count
Breaks CountTooLarge (streams_blocked dir count) = 2 ^ 60 < count
Breaks BelowZero (ack largest delay ranges ecn) = largest + 1 < taken ranges
Breaks _ _ = ⊥

-- the bytes begin with the shape of a frame of that type, whose values break the rule of that kind
pub record BrokenShape (kind : FaultKind) (t : ℕ) (bytes : List ℕ) : Type 0 where
  pub frame : FrameValue
  pub text : List ℕ
  pub after : List ℕ
  pub parts : bytes ≡ text ++ after
  pub shape : ShapeText frame text after
  pub numbered : number_of_type shape.type ≡ t
  pub broken : Breaks kind frame

-- a short type of that number, and what follows it
pub record KnownType (t : ℕ) (bytes : List ℕ) : Type 0 where
  pub type : FrameType
  pub after : List ℕ
  pub parts : bytes ≡ short t ++ after
  pub numbered : number_of_type type ≡ t

-- What stands in place of a frame: a fault of that kind, which names that frame type.
abbrev pub FaultHere : FaultKind → ℕ → List ℕ → Type 0
FaultHere Empty t bytes = (t ≡ 0) × (bytes ≡ [])
FaultHere LongType t bytes = (text : List ℕ) × (after : List ℕ) × (bytes ≡ text ++ after) × Spells t text × (text ≢ short t)
FaultHere UnknownType t bytes = (after : List ℕ) × (bytes ≡ short t ++ after) × (0x1e < t) × (t < 2 ^ 62)
FaultHere Truncated t bytes =
    (0 < length bytes) × (((t ≡ 0) × NoNumber bytes) ⊎ ((k : KnownType t bytes) × NoShape bytes × (FieldsBad (layout k.type) k.after → ⊥)))
FaultHere OffsetTooLarge t bytes = BrokenShape OffsetTooLarge t bytes
FaultHere CountTooLarge t bytes = BrokenShape CountTooLarge t bytes
FaultHere BelowZero t bytes = BrokenShape BelowZero t bytes
FaultHere IdentifierLength t bytes = (k : KnownType t bytes) × FieldsBad (layout k.type) k.after

-- The frames stand in the payload, as many as can, and then comes the fault.
pub record FaultyText (ps : List PlacedValue) (fault : WireFault) (payload : List ℕ) : Type 0 where
  pub rest : List ℕ
  pub begins : Begin 0 ps payload rest
  -- frames up to the payload's end have no fault
  pub some : rest ≡ [] → payload ≡ []
  pub place : fault.place + length rest ≡ length payload
  pub code : fault.code ≡ code_of fault.kind
  pub here : FaultHere fault.kind fault.frame_type rest
  pub no_frame : NoFrame rest

-- a type and the values of its fields
pub record Spelled : Type 0 where
  pub type : FrameType
  pub values : Values (layout type)

-- how the canonical text spells a frame
abbrev pub spelled : FrameValue → Spelled
spelled padding = record { type = Padding; values = tt }
spelled ping = record { type = Ping; values = tt }
spelled (ack largest delay ranges ecn) = record { type = Ack (is_some ecn); values = (largest, (delay, (ranges, (ecn, tt)))) }
spelled (reset_stream s code size) = record { type = ResetStream; values = (s, (code, (size, tt))) }
spelled (stop_sending s code) = record { type = StopSending; values = (s, (code, tt)) }
spelled (crypto o bytes) = record { type = Crypto; values = (o, (bytes, tt)) }
spelled (new_token bytes) = record { type = NewToken; values = (bytes, tt) }
spelled (stream s o fin bytes) = record { type = Stream (nat_lt 0 o) true fin; values = (s, (o, (bytes, tt))) }
spelled (max_data maximum) = record { type = MaxData; values = (maximum, tt) }
spelled (max_stream_data s maximum) = record { type = MaxStreamData; values = (s, (maximum, tt)) }
spelled (max_streams dir count) = record { type = MaxStreams dir; values = (count, tt) }
spelled (data_blocked limit) = record { type = DataBlocked; values = (limit, tt) }
spelled (stream_data_blocked s limit) = record { type = StreamDataBlocked; values = (s, (limit, tt)) }
spelled (streams_blocked dir count) = record { type = StreamsBlocked dir; values = (count, tt) }
spelled (new_connection_id sequence retire id token) = record { type = NewConnectionId; values = (sequence, (retire, (id, (token, tt)))) }
spelled (retire_connection_id sequence) = record { type = RetireConnectionId; values = (sequence, tt) }
spelled (path_challenge bytes) = record { type = PathChallenge; values = (bytes, tt) }
spelled (path_response bytes) = record { type = PathResponse; values = (bytes, tt) }
spelled (connection_close code type reason) = record { type = ConnectionClose; values = (code, (type, (reason, tt))) }
spelled (application_close code reason) = record { type = ApplicationClose; values = (code, (reason, tt)) }
spelled handshake_done = record { type = HandshakeDone; values = tt }

abbrev pub short_ecn : Option EcnCounts → List ℕ
short_ecn None = []
short_ecn (Some c) = flat_map short (counts_of c)

-- the shortest text of a field
abbrev pub short_field : (f : Field) → Value f → List ℕ
short_field number v = short v
short_field (number_if flag) v = if flag then short v else []
short_field counted v = short (length v) ++ v
short_field (counted_if flag) v = if flag then short (length v) ++ v else v
short_field (plain n) v = v
short_field identifier v = length v ∷ v
short_field ack_ranges v = short ((length v - 1) / 2) ++ flat_map short v
short_field (ecn_if flag) v = short_ecn v

abbrev pub short_fields : (fs : List Field) → Values fs → List ℕ
short_fields [] vs = []
short_fields (f ∷ fs) vs = short_field f vs.0 ++ short_fields fs vs.1

-- the canonical text of a frame
unfoldable pub canonical : FrameValue → List ℕ
canonical frame = let s = spelled frame in short (number_of_type s.type) ++ short_fields (layout s.type) s.values

-- the canonical text of a list of frames
abbrev pub canonical_all : List FrameValue → List ℕ
canonical_all frames = flat_map canonical frames

-- an odd count of numbers, each of which has a spelling
pub record AreRanges (vs : List ℕ) : Type 0 where
  pub below : AllByRecursion (λ v. v < 2 ^ 62) vs
  pub pairs : ℕ
  pub pairs_below : pairs < 2 ^ 62
  pub odd : length vs ≡ 2 * pairs + 1

-- counts that have a spelling
abbrev pub CountsFit : Option EcnCounts → Type 0
CountsFit None = Unit {0}
CountsFit (Some c) = AllByRecursion (λ v. v < 2 ^ 62) (counts_of c)

-- which frames have a text
abbrev pub Fits : FrameValue → Type 0
Fits padding = Unit {0}
Fits ping = Unit {0}
Fits (ack largest delay ranges ecn) = (largest < 2 ^ 62) × (delay < 2 ^ 62) × AreRanges ranges × (taken ranges ≤ largest + 1) × CountsFit ecn
Fits (reset_stream s code size) = (s < 2 ^ 62) × (code < 2 ^ 62) × (size < 2 ^ 62)
Fits (stop_sending s code) = (s < 2 ^ 62) × (code < 2 ^ 62)
Fits (crypto o bytes) = o + length bytes < 2 ^ 62
Fits (new_token bytes) = length bytes < 2 ^ 62
Fits (stream s o fin bytes) = (s < 2 ^ 62) × (o + length bytes < 2 ^ 62)
Fits (max_data maximum) = maximum < 2 ^ 62
Fits (max_stream_data s maximum) = (s < 2 ^ 62) × (maximum < 2 ^ 62)
Fits (max_streams dir count) = count ≤ 2 ^ 60
Fits (data_blocked limit) = limit < 2 ^ 62
Fits (stream_data_blocked s limit) = (s < 2 ^ 62) × (limit < 2 ^ 62)
Fits (streams_blocked dir count) = count ≤ 2 ^ 60
Fits (new_connection_id sequence retire id token) = (sequence < 2 ^ 62) × (retire < 2 ^ 62) × IsIdentifierLength (length id) × (length token ≡ 16)
Fits (retire_connection_id sequence) = sequence < 2 ^ 62
Fits (path_challenge bytes) = length bytes ≡ 8
Fits (path_response bytes) = length bytes ≡ 8
Fits (connection_close code type reason) = (code < 2 ^ 62) × (type < 2 ^ 62) × (length reason < 2 ^ 62)
Fits (application_close code reason) = (code < 2 ^ 62) × (length reason < 2 ^ 62)
Fits handshake_done = Unit {0}

-- the frames that steer streams and credit: none of their texts has more than 25 bytes
abbrev pub IsControl : FrameValue → Type 0
IsControl (reset_stream s code size) = Unit {0}
IsControl (stop_sending s code) = Unit {0}
IsControl (max_data maximum) = Unit {0}
IsControl (max_stream_data s maximum) = Unit {0}
IsControl (max_streams dir count) = Unit {0}
IsControl (data_blocked limit) = Unit {0}
IsControl (stream_data_blocked s limit) = Unit {0}
IsControl (streams_blocked dir count) = Unit {0}
IsControl _ = ⊥
