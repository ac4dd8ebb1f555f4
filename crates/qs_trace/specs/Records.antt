-- Of public contracts.
-- A trace as a JSON text sequence (RFC 7464) of qlog 0.4 (draft-ietf-quic-qlog-main-schema): a record for the trace, and one for each
-- item, whose time in milliseconds is its event's place in the log. All that stands between quotation marks are words of these files
-- and hex digits, so nothing has to be escaped.
use Rattle.std.specs.Prelude.{ℕ, suc, List, [], ◌∷◌, ◌++◌, codes, length}
use Rattle.std.specs.Fmt.{decimal}
use Rattle.std.specs.List.{flat_map}
use Rattle.qs_calls.specs.declared.event.Side.{Side}
use Rattle.qs_calls.specs.declared.event.Side.TheVariants.{A, B}
use Rattle.qs_calls.specs.declared.event.Event.{Event}
use Rattle.qs_calls.specs.declared.answer.Answer.{Answer}
use Rattle.qs_trace.specs.declared.item.Turn.{Turn}
use Rattle.qs_trace.specs.declared.item.Turn.TheVariants.{Ready, ResetSent, Recv, DataRead, ResetRead}
use Rattle.qs_trace.specs.declared.item.Why.{Why}
use Rattle.qs_trace.specs.declared.item.Why.TheVariants.{Duplicate, BelowFloor, NoMemory}
use Rattle.qs_trace.specs.declared.item.Item.TheVariants as held
use Rattle.qs_trace.specs.declared.item.Item as declared
use Rattle.qs_trace.specs.Items.{Item, sent, received, dropped, lost, turned, taken, given, closed, peer_closed, items_of}
use Rattle.qs_trace.specs.FrameJson.{naming, quoted, number_member, word_member, payload_json}

-- an item without where its bytes lie in memory
abbrev pub item_of : declared.Item → Item
item_of (held.Sent number payload) = sent number payload.now
item_of (held.Received number) = received number
item_of (held.Dropped number why) = dropped number why
item_of (held.Lost number) = lost number
item_of (held.Turned n turn) = turned n turn
item_of (held.Taken n count) = taken n count
item_of (held.Given n count) = given n count
item_of (held.Closed code) = closed code
item_of (held.PeerClosed code) = peer_closed code

-- the name of an item's event
abbrev pub item_name : Item → List ℕ
item_name (sent number payload) = codes "transport:packet_sent"
item_name (received number) = codes "transport:packet_received"
item_name (dropped number why) = codes "transport:packet_dropped"
item_name (lost number) = codes "recovery:packet_lost"
item_name (turned n turn) = codes "transport:stream_state_updated"
item_name (taken n count) = codes "transport:data_moved"
item_name (given n count) = codes "transport:data_moved"
item_name (closed code) = codes "connectivity:connection_closed"
item_name (peer_closed code) = codes "connectivity:connection_closed"

abbrev pub turn_side : Turn → List ℕ
turn_side Ready = codes "sending"
turn_side ResetSent = codes "sending"
turn_side Recv = codes "receiving"
turn_side DataRead = codes "receiving"
turn_side ResetRead = codes "receiving"

abbrev pub turn_state : Turn → List ℕ
turn_state Ready = codes "ready"
turn_state ResetSent = codes "reset_sent"
turn_state Recv = codes "receive"
turn_state DataRead = codes "data_read"
turn_state ResetRead = codes "reset_read"

abbrev pub why_word : Why → List ℕ
why_word Duplicate = codes "duplicate"
why_word BelowFloor = codes "general"
why_word NoMemory = codes "internal_error"

-- the first member of an object, which is a number
unfoldable pub first_number : List ℕ → ℕ → List ℕ
first_number name n = quoted name ++ codes ":" ++ decimal n

unfoldable pub first_packet : ℕ → List ℕ
first_packet number = first_number (codes "packet_number") number

unfoldable pub first_length : ℕ → List ℕ
first_length len = first_number (codes "payload_length") len

unfoldable pub first_code : ℕ → List ℕ
first_code code = first_number (codes "connection_code") code

-- what a record begins with: a record separator, its time and its name
unfoldable pub opening : ℕ → List ℕ → List ℕ
opening time name = 30 ∷ codes "{" ++ first_number (codes "time") time ++ word_member (codes "name") name ++ naming (codes "data") ++ codes "{"

-- what a record ends with
unfoldable pub ending : List ℕ
ending = codes "}}\n"

-- whose number a packet has: all are of the last number space (RFC 9000, section 12.3)
unfoldable pub header : ℕ → List ℕ
header number = quoted (codes "header") ++ codes ":{" ++ first_packet number ++ word_member (codes "packet_type") (codes "1RTT") ++ codes "}"

unfoldable pub raw_member : ℕ → List ℕ
raw_member len = naming (codes "raw") ++ codes "{" ++ first_length len ++ codes "}"

unfoldable pub frames_member : List ℕ → List ℕ
frames_member payload = naming (codes "frames") ++ codes "[" ++ payload_json payload ++ codes "]"

unfoldable pub turn_members : ℕ → Turn → List ℕ
turn_members n turn = first_number (codes "stream_id") n ++ word_member (codes "stream_side") (turn_side turn) ++ word_member (codes "new") (turn_state turn)

unfoldable pub moved_members : ℕ → ℕ → List ℕ → List ℕ → List ℕ
moved_members n count from to = first_number (codes "stream_id") n ++ number_member (codes "length") count ++ word_member (codes "from") from ++ word_member (codes "to") to

unfoldable pub closed_members : ℕ → List ℕ → List ℕ
closed_members code owner = first_code code ++ word_member (codes "owner") owner

-- an item's data
abbrev pub item_data : Item → List ℕ
item_data (sent number payload) = header number ++ raw_member (length payload) ++ frames_member payload
item_data (received number) = header number
item_data (dropped number why) = header number ++ word_member (codes "trigger") (why_word why)
item_data (lost number) = header number
item_data (turned n turn) = turn_members n turn
item_data (taken n count) = moved_members n count (codes "application") (codes "transport")
item_data (given n count) = moved_members n count (codes "transport") (codes "application")
item_data (closed code) = closed_members code (codes "local")
item_data (peer_closed code) = closed_members code (codes "remote")

-- the record of an item
unfoldable pub item_text : ℕ → Item → List ℕ
item_text time item = opening time (item_name item) ++ item_data item ++ ending

-- the records of what one end sees of an event, in its place
abbrev pub event_text : Side → ℕ → Event × Answer → List ℕ
event_text s time x = flat_map (item_text time) (items_of s x)

-- the records of a log from a place on
abbrev pub records_from : Side → ℕ → List (Event × Answer) → List ℕ
records_from s time [] = []
records_from s time (x ∷ log) = event_text s time x ++ records_from s (suc time) log

-- whose trace it is
abbrev pub vantage : Side → List ℕ
vantage A = codes "client"
vantage B = codes "server"

-- the trace's own record, up to whose it is
unfoldable pub heading : List ℕ
heading = 30 ∷ codes "{\"qlog_version\":\"0.4\",\"qlog_format\":\"JSON-SEQ\",\"trace\":{\"common_fields\":{\"protocol_type\":[\"QUIC\"],\"time_format\":\"relative\",\"reference_time\":0,\"gotsavena:time\":\"place in the log\"},\"vantage_point\":{\"type\":"

unfoldable pub heading_end : List ℕ
heading_end = codes "}}}\n"

-- the trace of one end over a log that has the oldest first
abbrev pub trace_text : Side → List (Event × Answer) → List ℕ
trace_text s log = heading ++ quoted (vantage s) ++ heading_end ++ records_from s 0 log
