-- Of public contracts.
-- A frame as a JSON object, with the names of draft-ietf-quic-qlog-quic-events. All that stands between quotation marks are words of
-- this file and hex digits, so nothing has to be escaped.
use Rattle.std.specs.Prelude.{ℕ, Bool, true, false, List, [], ◌∷◌, ◌++◌, codes, length, Option, None, Some}
use Rattle.std.specs.Fmt.{decimal}
use Rattle.std.specs.List.{flat_map}
use Rattle.hex.specs.Hex.{encode_lower}
use Rattle.qs_wire.specs.declared.stream_id.Dir.{Dir}
use Rattle.qs_wire.specs.declared.stream_id.Dir.TheVariants.{Bidi, Uni}
use Rattle.qs_wire.specs.Layout.{FrameValue, PlacedValue, padding, ping, ack, reset_stream, stop_sending, crypto, new_token, stream, max_data, max_stream_data, max_streams, data_blocked, stream_data_blocked, streams_blocked, new_connection_id, retire_connection_id, path_challenge, path_response, connection_close, application_close, handshake_done, ack_ranges_of}
use Rattle.qs_wire.specs.declared.frame.EcnCounts.{EcnCounts}
use Rattle.qs_wire.specs.Reading.{reading_of}

-- a range of packet numbers: the smallest and the largest
abbrev pub range_json : ℕ × ℕ → List ℕ
range_json r = codes "[" ++ decimal r.0 ++ codes "," ++ decimal r.1 ++ codes "]"

-- a comma and a further range
abbrev pub more_range : ℕ × ℕ → List ℕ
more_range r = codes "," ++ range_json r

-- the ranges, parted by commas
abbrev pub ranges_json : List (ℕ × ℕ) → List ℕ
ranges_json [] = []
ranges_json (r ∷ rs) = range_json r ++ flat_map more_range rs

-- the name of a further member of an object
unfoldable pub naming : List ℕ → List ℕ
naming name = codes ",\"" ++ name ++ codes "\":"

unfoldable pub quoted : List ℕ → List ℕ
quoted word = codes "\"" ++ word ++ codes "\""

unfoldable pub number_member : List ℕ → ℕ → List ℕ
number_member name n = naming name ++ decimal n

unfoldable pub word_member : List ℕ → List ℕ → List ℕ
word_member name word = naming name ++ quoted word

-- an object without members
unfoldable pub empty_member : List ℕ → List ℕ
empty_member name = naming name ++ codes "{}"

-- bytes as lower-case hex
unfoldable pub bytes_member : List ℕ → List ℕ → List ℕ
bytes_member name bytes = word_member name (encode_lower bytes)

-- the ranges as a member
unfoldable pub acked_json : List (ℕ × ℕ) → List ℕ
acked_json rs = naming (codes "acked_ranges") ++ codes "[" ++ ranges_json rs ++ codes "]"

abbrev pub ecn_json : Option EcnCounts → List ℕ
ecn_json None = []
ecn_json (Some ecn) = number_member (codes "ect0") ecn.ect0 ++ number_member (codes "ect1") ecn.ect1 ++ number_member (codes "ce") ecn.ce

abbrev pub dir_json : Dir → List ℕ
dir_json Bidi = codes "bidirectional"
dir_json Uni = codes "unidirectional"

abbrev pub flag_json : Bool → List ℕ
flag_json true = codes "true"
flag_json false = codes "false"

-- what each frame is called
abbrev pub frame_name : FrameValue → List ℕ
frame_name padding = codes "padding"
frame_name ping = codes "ping"
frame_name (ack largest delay ranges ecn) = codes "ack"
frame_name (reset_stream s code size) = codes "reset_stream"
frame_name (stop_sending s code) = codes "stop_sending"
frame_name (crypto o bytes) = codes "crypto"
frame_name (new_token bytes) = codes "new_token"
frame_name (stream s o fin bytes) = codes "stream"
frame_name (max_data maximum) = codes "max_data"
frame_name (max_stream_data s maximum) = codes "max_stream_data"
frame_name (max_streams dir count) = codes "max_streams"
frame_name (data_blocked limit) = codes "data_blocked"
frame_name (stream_data_blocked s limit) = codes "stream_data_blocked"
frame_name (streams_blocked dir count) = codes "streams_blocked"
frame_name (new_connection_id sequence retire id token) = codes "new_connection_id"
frame_name (retire_connection_id sequence) = codes "retire_connection_id"
frame_name (path_challenge bytes) = codes "path_challenge"
frame_name (path_response bytes) = codes "path_response"
frame_name (connection_close code kind reason) = codes "connection_close"
frame_name (application_close code reason) = codes "connection_close"
frame_name handshake_done = codes "handshake_done"

-- the delay that an ACK bears, whose unit the layer beneath knows: a name of our own
unfoldable pub delay_member : ℕ → List ℕ
delay_member delay = number_member (codes "gotsavena:delay_field") delay

-- what a frame on packets or on a stream's halves holds; of data the count
abbrev pub stream_members : FrameValue → List ℕ
stream_members (ack largest delay ranges ecn) = delay_member delay ++ acked_json (ack_ranges_of largest ranges) ++ ecn_json ecn
stream_members (reset_stream s code size) = number_member (codes "stream_id") s ++ number_member (codes "error_code") code ++ number_member (codes "final_size") size
stream_members (stop_sending s code) = number_member (codes "stream_id") s ++ number_member (codes "error_code") code
stream_members (stream s o fin bytes) = number_member (codes "stream_id") s ++ number_member (codes "offset") o ++ number_member (codes "length") (length bytes) ++ naming (codes "fin") ++ flag_json fin
stream_members frame = []

-- what a frame on credit holds
abbrev pub credit_members : FrameValue → List ℕ
credit_members (max_data maximum) = number_member (codes "maximum") maximum
credit_members (max_stream_data s maximum) = number_member (codes "stream_id") s ++ number_member (codes "maximum") maximum
credit_members (max_streams dir count) = word_member (codes "stream_type") (dir_json dir) ++ number_member (codes "maximum") count
credit_members (data_blocked limit) = number_member (codes "limit") limit
credit_members (stream_data_blocked s limit) = number_member (codes "stream_id") s ++ number_member (codes "limit") limit
credit_members (streams_blocked dir count) = word_member (codes "stream_type") (dir_json dir) ++ number_member (codes "limit") count
credit_members frame = []

-- who closes, an application or the transport, and with which code
abbrev pub close_members : List ℕ → ℕ → List ℕ
close_members space code = word_member (codes "error_space") space ++ number_member (codes "error_code") code

abbrev pub reason_member : List ℕ → List ℕ
reason_member reason = bytes_member (codes "reason_bytes") reason

-- which type of frame was at fault, and why
abbrev pub fault_members : ℕ → List ℕ → List ℕ
fault_members kind reason = number_member (codes "trigger_frame_type") kind ++ reason_member reason

abbrev pub sequence_members : ℕ → ℕ → List ℕ
sequence_members sequence retire = number_member (codes "sequence_number") sequence ++ number_member (codes "retire_prior_to") retire

abbrev pub id_members : List ℕ → List ℕ → List ℕ
id_members id token = bytes_member (codes "connection_id") id ++ bytes_member (codes "stateless_reset_token") token

-- what another frame holds
abbrev pub other_members : FrameValue → List ℕ
other_members (crypto o bytes) = number_member (codes "offset") o ++ number_member (codes "length") (length bytes)
other_members (new_token bytes) = empty_member (codes "token")
other_members (new_connection_id sequence retire id token) = sequence_members sequence retire ++ id_members id token
other_members (retire_connection_id sequence) = number_member (codes "sequence_number") sequence
other_members (path_challenge bytes) = bytes_member (codes "data") bytes
other_members (path_response bytes) = bytes_member (codes "data") bytes
other_members (connection_close code kind reason) = close_members (codes "transport") code ++ fault_members kind reason
other_members (application_close code reason) = close_members (codes "application") code ++ reason_member reason
other_members frame = []

-- the first member of a frame's object: its name
unfoldable pub naming_frame : List ℕ → List ℕ
naming_frame name = codes "{" ++ quoted (codes "frame_type") ++ codes ":" ++ quoted name

abbrev pub frame_json : FrameValue → List ℕ
frame_json frame = naming_frame (frame_name frame) ++ stream_members frame ++ credit_members frame ++ other_members frame ++ codes "}"

-- a comma and a further frame
abbrev pub more_frame : PlacedValue → List ℕ
more_frame p = codes "," ++ frame_json p.frame

-- the frames, parted by commas
abbrev pub frames_json : List PlacedValue → List ℕ
frames_json [] = []
frames_json (p ∷ ps) = frame_json p.frame ++ flat_map more_frame ps

-- the frames of a payload, up to its fault where it has one
abbrev pub payload_json : List ℕ → List ℕ
payload_json payload = frames_json (reading_of payload).left
