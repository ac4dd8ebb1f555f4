-- Trusted.
-- The frames, and the fields of each (RFC 9000, section 19, for the whole file).
use Rattle.std.specs.Prelude.{ℕ, ◌+◌, ◌-◌, ◌*◌, Bool, true, false, List, [], ◌∷◌, Option, slice_get}
use Rattle.qs_wire.specs.declared.frame.EcnCounts.{EcnCounts}
use Rattle.qs_wire.specs.declared.frame.Frame.{Frame}
use Rattle.qs_wire.specs.declared.frame.Frame.TheVariants as frames
use Rattle.qs_wire.specs.declared.stream_id.Dir.{Dir}
use Rattle.qs_wire.specs.declared.stream_id.Dir.TheVariants.{Bidi, Uni}
use Rattle.qs_wire.specs.Varint.{numbers_of}
use Rattle.qs_wire.specs.declared.frame_type.FrameType.{FrameType}
use Rattle.qs_wire.specs.declared.frame_type.FrameType.TheVariants.{Padding, Ping, Ack, ResetStream, StopSending, Crypto, NewToken, Stream, MaxData, MaxStreamData, MaxStreams, DataBlocked, StreamDataBlocked, StreamsBlocked, NewConnectionId, RetireConnectionId, PathChallenge, PathResponse, ConnectionClose, ApplicationClose, HandshakeDone}

-- a frame without where its bytes lie in memory
pub data FrameValue : Type 0 where
  padding : FrameValue
  ping : FrameValue
  ack : (largest : ℕ) (delay : ℕ) (ranges : List ℕ) (ecn : Option EcnCounts) → FrameValue
  reset_stream : (stream_id : ℕ) (code : ℕ) (final_size : ℕ) → FrameValue
  stop_sending : (stream_id : ℕ) (code : ℕ) → FrameValue
  crypto : (offset : ℕ) (bytes : List ℕ) → FrameValue
  new_token : (bytes : List ℕ) → FrameValue
  stream : (stream_id : ℕ) (offset : ℕ) (fin : Bool) (bytes : List ℕ) → FrameValue
  max_data : (maximum : ℕ) → FrameValue
  max_stream_data : (stream_id : ℕ) (maximum : ℕ) → FrameValue
  max_streams : (dir : Dir) (count : ℕ) → FrameValue
  data_blocked : (limit : ℕ) → FrameValue
  stream_data_blocked : (stream_id : ℕ) (limit : ℕ) → FrameValue
  streams_blocked : (dir : Dir) (count : ℕ) → FrameValue
  new_connection_id : (sequence : ℕ) (retire : ℕ) (identifier : List ℕ) (reset_token : List ℕ) → FrameValue
  retire_connection_id : (sequence : ℕ) → FrameValue
  path_challenge : (bytes : List ℕ) → FrameValue
  path_response : (bytes : List ℕ) → FrameValue
  connection_close : (code : ℕ) (frame_type : ℕ) (reason : List ℕ) → FrameValue
  application_close : (code : ℕ) (reason : List ℕ) → FrameValue
  handshake_done : FrameValue

abbrev pub view : Frame → FrameValue
view frames.Padding = padding
view frames.Ping = ping
view (frames.Ack largest delay ranges ecn) = ack largest delay (numbers_of ranges.now) ecn
view (frames.ResetStream s code size) = reset_stream s code size
view (frames.StopSending s code) = stop_sending s code
view (frames.Crypto o bytes) = crypto o bytes.now
view (frames.NewToken bytes) = new_token bytes.now
view (frames.Stream s o fin bytes) = stream s o fin bytes.now
view (frames.MaxData maximum) = max_data maximum
view (frames.MaxStreamData s maximum) = max_stream_data s maximum
view (frames.MaxStreams dir count) = max_streams dir count
view (frames.DataBlocked limit) = data_blocked limit
view (frames.StreamDataBlocked s limit) = stream_data_blocked s limit
view (frames.StreamsBlocked dir count) = streams_blocked dir count
view (frames.NewConnectionId sequence retire id token) = new_connection_id sequence retire id.now token.now
view (frames.RetireConnectionId sequence) = retire_connection_id sequence
view (frames.PathChallenge bytes) = path_challenge bytes.now
view (frames.PathResponse bytes) = path_response bytes.now
view (frames.ConnectionClose code type reason) = connection_close code type reason.now
view (frames.ApplicationClose code reason) = application_close code reason.now
view frames.HandshakeDone = handshake_done

-- what the numbers of an ACK's ranges take away: each number, and one more with each
abbrev pub taken : List ℕ → ℕ
taken [] = 0
taken (v ∷ vs) = (v + 1) + taken vs

-- The ranges that the numbers of an ACK name, as smallest and largest packet number, the highest first
-- (RFC 9000, section 19.3.1).
abbrev pub ack_ranges_of : ℕ → List ℕ → List (ℕ × ℕ)
ack_ranges_of largest [] = []
ack_ranges_of largest (len ∷ []) = (largest - len, largest) ∷ []
ack_ranges_of largest (len ∷ gap ∷ more) = (largest - len, largest) ∷ ack_ranges_of ((largest - len) - (gap + 2)) more

-- a frame, the place of its first byte, and the number of its type as it was read
pub record PlacedValue : Type 0 where
  pub place : ℕ
  pub frame : FrameValue
  pub frame_type : ℕ

-- What a field is: a number; a number where a flag is set, and else 0; a number and as many bytes; the
-- same where a flag is set, and else the bytes to the payload's end; so many bytes; a byte and as many
-- bytes; a number n and 2 n + 1 numbers more; three numbers where a flag is set.
pub data Field : Type 0 where
  number : Field
  number_if : (flag : Bool) → Field
  counted : Field
  counted_if : (flag : Bool) → Field
  plain : (count : ℕ) → Field
  identifier : Field
  ack_ranges : Field
  ecn_if : (flag : Bool) → Field

abbrev pub Value : Field → Type 0
Value number = ℕ
Value (number_if flag) = ℕ
Value counted = List ℕ
Value (counted_if flag) = List ℕ
Value (plain count) = List ℕ
Value identifier = List ℕ
Value ack_ranges = List ℕ
Value (ecn_if flag) = Option EcnCounts

abbrev pub Values : List Field → Type 0
Values [] = Unit {0}
Values (f ∷ fs) = Value f × Values fs

abbrev pub bit : Bool → ℕ
bit true = 1
bit false = 0

abbrev pub dir_bit : Dir → ℕ
dir_bit Bidi = 0
dir_bit Uni = 1

-- each type's number
abbrev pub number_of_type : FrameType → ℕ
number_of_type Padding = 0x00
number_of_type Ping = 0x01
number_of_type (Ack ecn) = 0x02 + bit ecn
number_of_type ResetStream = 0x04
number_of_type StopSending = 0x05
number_of_type Crypto = 0x06
number_of_type NewToken = 0x07
number_of_type (Stream off len fin) = 0x08 + 4 * bit off + 2 * bit len + bit fin
number_of_type MaxData = 0x10
number_of_type MaxStreamData = 0x11
number_of_type (MaxStreams dir) = 0x12 + dir_bit dir
number_of_type DataBlocked = 0x14
number_of_type StreamDataBlocked = 0x15
number_of_type (StreamsBlocked dir) = 0x16 + dir_bit dir
number_of_type NewConnectionId = 0x18
number_of_type RetireConnectionId = 0x19
number_of_type PathChallenge = 0x1a
number_of_type PathResponse = 0x1b
number_of_type ConnectionClose = 0x1c
number_of_type ApplicationClose = 0x1d
number_of_type HandshakeDone = 0x1e

-- all types, in the order of their numbers, of which none from 0x00 to 0x1e is left out
abbrev pub types : List FrameType
types =
    Padding ∷ Ping ∷ Ack false ∷ Ack true ∷ ResetStream ∷ StopSending ∷ Crypto ∷ NewToken
    ∷ Stream false false false ∷ Stream false false true ∷ Stream false true false ∷ Stream false true true
    ∷ Stream true false false ∷ Stream true false true ∷ Stream true true false ∷ Stream true true true
    ∷ MaxData ∷ MaxStreamData ∷ MaxStreams Bidi ∷ MaxStreams Uni ∷ DataBlocked ∷ StreamDataBlocked ∷ StreamsBlocked Bidi ∷ StreamsBlocked Uni
    ∷ NewConnectionId ∷ RetireConnectionId ∷ PathChallenge ∷ PathResponse ∷ ConnectionClose ∷ ApplicationClose ∷ HandshakeDone ∷ []

-- the type of a number
abbrev pub type_of : ℕ → Option FrameType
type_of t = slice_get types t

-- the fields of each type, in order
abbrev pub layout : FrameType → List Field
-- section 19.1
layout Padding = []
-- section 19.2
layout Ping = []
-- section 19.3
layout (Ack ecn) = number ∷ number ∷ ack_ranges ∷ ecn_if ecn ∷ []
-- section 19.4
layout ResetStream = number ∷ number ∷ number ∷ []
-- section 19.5
layout StopSending = number ∷ number ∷ []
-- section 19.6
layout Crypto = number ∷ counted ∷ []
-- section 19.7
layout NewToken = counted ∷ []
-- section 19.8
layout (Stream off len fin) = number ∷ number_if off ∷ counted_if len ∷ []
-- section 19.9
layout MaxData = number ∷ []
-- section 19.10
layout MaxStreamData = number ∷ number ∷ []
-- section 19.11
layout (MaxStreams dir) = number ∷ []
-- section 19.12
layout DataBlocked = number ∷ []
-- section 19.13
layout StreamDataBlocked = number ∷ number ∷ []
-- section 19.14
layout (StreamsBlocked dir) = number ∷ []
-- section 19.15
layout NewConnectionId = number ∷ number ∷ identifier ∷ plain 16 ∷ []
-- section 19.16
layout RetireConnectionId = number ∷ []
-- section 19.17
layout PathChallenge = plain 8 ∷ []
-- section 19.18
layout PathResponse = plain 8 ∷ []
-- section 19.19
layout ConnectionClose = number ∷ number ∷ counted ∷ []
layout ApplicationClose = number ∷ counted ∷ []
-- section 19.20
layout HandshakeDone = []

-- the frame that the fields make
abbrev pub frame_of : (t : FrameType) → Values (layout t) → FrameValue
frame_of Padding vs = padding
frame_of Ping vs = ping
frame_of (Ack ecn) vs = ack vs.0 vs.1.0 vs.1.1.0 vs.1.1.1.0
frame_of ResetStream vs = reset_stream vs.0 vs.1.0 vs.1.1.0
frame_of StopSending vs = stop_sending vs.0 vs.1.0
frame_of Crypto vs = crypto vs.0 vs.1.0
frame_of NewToken vs = new_token vs.0
frame_of (Stream off len fin) vs = stream vs.0 vs.1.0 fin vs.1.1.0
frame_of MaxData vs = max_data vs.0
frame_of MaxStreamData vs = max_stream_data vs.0 vs.1.0
frame_of (MaxStreams dir) vs = max_streams dir vs.0
frame_of DataBlocked vs = data_blocked vs.0
frame_of StreamDataBlocked vs = stream_data_blocked vs.0 vs.1.0
frame_of (StreamsBlocked dir) vs = streams_blocked dir vs.0
frame_of NewConnectionId vs = new_connection_id vs.0 vs.1.0 vs.1.1.0 vs.1.1.1.0
frame_of RetireConnectionId vs = retire_connection_id vs.0
frame_of PathChallenge vs = path_challenge vs.0
frame_of PathResponse vs = path_response vs.0
frame_of ConnectionClose vs = connection_close vs.0 vs.1.0 vs.1.1.0
frame_of ApplicationClose vs = application_close vs.0 vs.1.0
frame_of HandshakeDone vs = handshake_done
