-- Trusted.
-- What an end reads of a frame (RFC 9000, section 19, for the whole file).
use Rattle.std.specs.Prelude.{ℕ, Bool, true, false, List, [], ◌∷◌, ◌||◌, map}
use Rattle.qs_wire.specs.Layout.{FrameValue, padding, ping, ack, reset_stream, stop_sending, crypto, new_token, stream, max_data, max_stream_data, max_streams, data_blocked, stream_data_blocked, streams_blocked, new_connection_id, retire_connection_id, path_challenge, path_response, connection_close, application_close, handshake_done, ack_ranges_of}
use Rattle.qs_send.specs.declared.piece.Item.{Item}
use Rattle.qs_send.specs.declared.piece.Item.TheVariants as items

-- An ACK's ranges are pairs of a smallest and a largest number, highest first. A plain frame tells nothing to the streams; it may ask
-- for an ACK.
pub data Seen : Type 0 where
  Ack : (largest : ℕ) (ranges : List (ℕ × ℕ)) → Seen
  Stream : (stream offset : ℕ) (bytes : List ℕ) (fin : Bool) → Seen
  Control : (item : Item) → Seen
  Close : (code : ℕ) → Seen
  Plain : (asks : Bool) → Seen

abbrev pub seen : FrameValue → Seen
seen padding = Plain false
seen ping = Plain true
seen (ack largest delay ranges ecn) = Ack largest (ack_ranges_of largest ranges)
seen (reset_stream n code size) = Control (items.ResetStream n code size)
seen (stop_sending n code) = Control (items.StopSending n code)
seen (crypto offset bytes) = Plain true
seen (new_token bytes) = Plain true
seen (stream n offset fin bytes) = Stream n offset bytes fin
seen (max_data maximum) = Control (items.MaxData maximum)
seen (max_stream_data n maximum) = Control (items.MaxStreamData n maximum)
seen (max_streams dir count) = Control (items.MaxStreams dir count)
seen (data_blocked limit) = Control (items.DataBlocked limit)
seen (stream_data_blocked n limit) = Control (items.StreamDataBlocked n limit)
seen (streams_blocked dir count) = Control (items.StreamsBlocked dir count)
seen (new_connection_id sequence retire identifier token) = Plain true
seen (retire_connection_id sequence) = Plain true
seen (path_challenge bytes) = Plain true
seen (path_response bytes) = Plain true
seen (connection_close code kind reason) = Close code
seen (application_close code reason) = Close code
seen handshake_done = Plain true

abbrev pub seen_all : List FrameValue → List Seen
seen_all frames = map seen frames

-- all frames ask for an ACK but ACK, PADDING and CONNECTION_CLOSE (RFC 9000, section 13.2)
abbrev pub asks_ack : Seen → Bool
asks_ack (Ack largest ranges) = false
asks_ack (Stream n offset bytes fin) = true
asks_ack (Control item) = true
asks_ack (Close code) = false
asks_ack (Plain asks) = asks

abbrev pub any_asks : List Seen → Bool
any_asks [] = false
any_asks (f ∷ fs) = asks_ack f || any_asks fs
