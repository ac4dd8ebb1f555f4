-- Of public contracts.
-- How frames are printed.
use Rattle.std.specs.Prelude.{ℕ, List, [], ◌∷◌, ◌++◌, codes, Option, None, Some}
use Rattle.std.specs.Fmt.{decimal}
use Rattle.std.specs.List.{flat_map}
use Rattle.qs_wire.specs.Layout.{FrameValue, padding, ping, ack, reset_stream, stop_sending, crypto, new_token, stream, max_data, max_stream_data, max_streams, data_blocked, stream_data_blocked, streams_blocked, new_connection_id, retire_connection_id, path_challenge, path_response, connection_close, application_close, handshake_done, ack_ranges_of}
use Rattle.qs_wire.specs.declared.frame.EcnCounts.{EcnCounts}
use Rattle.qs_wire.specs.Layout.{PlacedValue}
use Rattle.qs_wire.specs.Grammar.{canonical_all, frames_of}
use Rattle.qs_wire.specs.Reading.{reading_of}
use Rattle.qs_wire.specs.declared.fault.WireFault.{WireFault}
use Rattle.qs_wire.specs.Faults.{kind_number}
use Rattle.qs_text.specs.EventText.{hex_text, code_text, dir_text, yes_text}

-- a field that is shown: its name and the text of its value
abbrev pub Shown : Type 0
Shown = List ℕ × List ℕ

-- a space, the name, an equals sign and the value
abbrev pub shown_text : Shown → List ℕ
shown_text s = codes " " ++ s.0 ++ codes "=" ++ s.1

-- a range of packet numbers: the smallest and the largest
abbrev pub range_text : ℕ × ℕ → List ℕ
range_text r = decimal r.0 ++ codes ".." ++ decimal r.1

-- a comma and a further range
abbrev pub more_text : ℕ × ℕ → List ℕ
more_text r = codes "," ++ range_text r

-- the ranges, parted by commas
abbrev pub ranges_text : List (ℕ × ℕ) → List ℕ
ranges_text [] = []
ranges_text (r ∷ rs) = range_text r ++ flat_map more_text rs

-- the ECN counts, where there are any
abbrev pub ecn_text : EcnCounts → List ℕ
ecn_text ecn = decimal ecn.ect0 ++ codes "," ++ decimal ecn.ect1 ++ codes "," ++ decimal ecn.ce

abbrev pub ecn_fields : Option EcnCounts → List Shown
ecn_fields None = []
ecn_fields (Some ecn) = (codes "ecn", ecn_text ecn) ∷ []

-- what each frame is called (RFC 9000, section 19)
abbrev pub name_of : FrameValue → List ℕ
name_of padding = codes "PADDING"
name_of ping = codes "PING"
name_of (ack largest delay ranges ecn) = codes "ACK"
name_of (reset_stream s code size) = codes "RESET_STREAM"
name_of (stop_sending s code) = codes "STOP_SENDING"
name_of (crypto o bytes) = codes "CRYPTO"
name_of (new_token bytes) = codes "NEW_TOKEN"
name_of (stream s o fin bytes) = codes "STREAM"
name_of (max_data maximum) = codes "MAX_DATA"
name_of (max_stream_data s maximum) = codes "MAX_STREAM_DATA"
name_of (max_streams dir count) = codes "MAX_STREAMS"
name_of (data_blocked limit) = codes "DATA_BLOCKED"
name_of (stream_data_blocked s limit) = codes "STREAM_DATA_BLOCKED"
name_of (streams_blocked dir count) = codes "STREAMS_BLOCKED"
name_of (new_connection_id sequence retire id token) = codes "NEW_CONNECTION_ID"
name_of (retire_connection_id sequence) = codes "RETIRE_CONNECTION_ID"
name_of (path_challenge bytes) = codes "PATH_CHALLENGE"
name_of (path_response bytes) = codes "PATH_RESPONSE"
name_of (connection_close code kind reason) = codes "CONNECTION_CLOSE"
name_of (application_close code reason) = codes "APPLICATION_CLOSE"
name_of handshake_done = codes "HANDSHAKE_DONE"

-- what each frame holds, in the order in which it is shown
abbrev pub fields_of : FrameValue → List Shown
fields_of padding = []
fields_of ping = []
fields_of (ack largest delay ranges ecn) = (codes "delay", decimal delay) ∷ (codes "ranges", ranges_text (ack_ranges_of largest ranges)) ∷ ecn_fields ecn
fields_of (reset_stream s code size) = (codes "stream", decimal s) ∷ (codes "code", decimal code) ∷ (codes "final", decimal size) ∷ []
fields_of (stop_sending s code) = (codes "stream", decimal s) ∷ (codes "code", decimal code) ∷ []
fields_of (crypto o bytes) = (codes "offset", decimal o) ∷ (codes "bytes", hex_text bytes) ∷ []
fields_of (new_token bytes) = (codes "token", hex_text bytes) ∷ []
fields_of (stream s o fin bytes) = (codes "stream", decimal s) ∷ (codes "offset", decimal o) ∷ (codes "fin", yes_text fin) ∷ (codes "bytes", hex_text bytes) ∷ []
fields_of (max_data maximum) = (codes "max", decimal maximum) ∷ []
fields_of (max_stream_data s maximum) = (codes "stream", decimal s) ∷ (codes "max", decimal maximum) ∷ []
fields_of (max_streams dir count) = (codes "dir", dir_text dir) ∷ (codes "count", decimal count) ∷ []
fields_of (data_blocked limit) = (codes "limit", decimal limit) ∷ []
fields_of (stream_data_blocked s limit) = (codes "stream", decimal s) ∷ (codes "limit", decimal limit) ∷ []
fields_of (streams_blocked dir count) = (codes "dir", dir_text dir) ∷ (codes "count", decimal count) ∷ []
fields_of (new_connection_id sequence retire id token) = (codes "seq", decimal sequence) ∷ (codes "retire", decimal retire) ∷ (codes "id", hex_text id) ∷ (codes "token", hex_text token) ∷ []
fields_of (retire_connection_id sequence) = (codes "seq", decimal sequence) ∷ []
fields_of (path_challenge bytes) = (codes "bytes", hex_text bytes) ∷ []
fields_of (path_response bytes) = (codes "bytes", hex_text bytes) ∷ []
fields_of (connection_close code kind reason) = (codes "code", decimal code) ∷ (codes "type", code_text kind) ∷ (codes "reason", hex_text reason) ∷ []
fields_of (application_close code reason) = (codes "code", decimal code) ∷ (codes "reason", hex_text reason) ∷ []
fields_of handshake_done = []

-- a frame: its name and what it holds
abbrev pub frame_text : FrameValue → List ℕ
frame_text frame = name_of frame ++ flat_map shown_text (fields_of frame)

-- the line of a frame: its place and what it is
abbrev pub line_of : PlacedValue → List ℕ
line_of p = decimal p.place ++ codes " " ++ frame_text p.frame ++ codes "\n"

abbrev pub lines_of : List PlacedValue → List ℕ
lines_of ps = flat_map line_of ps

-- the line of a fault
abbrev pub fault_line : WireFault → List ℕ
fault_line fault =
    codes "fault " ++ decimal (kind_number fault.kind) ++ codes " place " ++ decimal fault.place
    ++ codes " code " ++ code_text fault.code ++ codes " type " ++ code_text fault.frame_type ++ codes "\n"

abbrev pub last_line : Option WireFault → List PlacedValue → List ℕ
last_line (Some fault) ps = fault_line fault
last_line None ps = codes "canonical " ++ hex_text (canonical_all (frames_of ps)) ++ codes "\n"

-- a line for each frame, and then the canonical text of all, or the fault that ends them
abbrev pub payload_text : List ℕ → List ℕ
payload_text payload = let r = reading_of payload in lines_of r.left ++ last_line r.fault r.left
