-- Of laws.
-- Decisive steps of small connections.
use Rattle.std.specs.Prelude.{◌≡◌, ℕ, ◌+◌, ◌-◌, ◌^◌, true, false, List, [], ◌∷◌, length, replicate, None, Some, Err}
use Rattle.std.specs.FinMap as fmap
use Rattle.qs_wire.specs.Layout.{PlacedValue, stream, reset_stream}
use Rattle.qs_wire.specs.Reading.{reading_of}
use Rattle.qs_wire.specs.declared.stream_id.Dir.TheVariants.{Uni}
use Rattle.qs_wire.specs.declared.stream_id.Role.TheVariants.{Client, Server}
use Rattle.qs_recv.specs.Lane.{MAX_WINDOW, MAX_CONN_WINDOW, after_read, next_limit}
use Rattle.qs_recv.specs.declared.credit.Share.TheVariants.{Half, Quarter, Eighth, Sixteenth}
use Rattle.qs_send.specs.Lane.{SendLane, state, write_lane, sent_lane, finish_lane, reset_acked_lane}
use Rattle.qs_send.specs.declared.parts.Chunk.{Chunk}
use Rattle.qs_send.specs.declared.piece.Piece.TheVariants.{Data}
use Rattle.qs_send.specs.declared.parts.SendState.TheVariants.{DataSent, ResetSent}
use Rattle.qs_send.specs.declared.piece.Item.TheVariants.{MaxStreamData, MaxStreams, ResetStream, StopSending, StreamDataBlocked}
use Rattle.qs_calls.specs.declared.settings.Settings.{Settings}
use Rattle.qs_calls.specs.declared.closing.Closing.{Closing}
use Rattle.qs_calls.specs.Settings.{MAX_GRANT, MAX_LIFETIME, are_in_range, are_in_wide_range, limits_of, default_tuning}
use Rattle.qs_machine.specs.Ends.{End, new_end, opens, on_send, on_recv, send_lane}
use Rattle.qs_machine.specs.Credit.{settle}
use Rattle.qs_machine.specs.Seen.{Seen, Ack, Stream, Control}
use Rattle.qs_machine.specs.Verdicts.{verdict, FLOW_CONTROL_ERROR, STREAM_LIMIT_ERROR, STREAM_STATE_ERROR, FINAL_SIZE_ERROR, PROTOCOL_VIOLATION}
use Rattle.qs_machine.specs.FrameStep.{frame_taken, item_acked, acked_at, named}
use Rattle.qs_machine.specs.Due.{IsCurrent, IsDueItem}
use Rattle.qs_machine.specs.Lawful.{MayPut, Lawful}
use Rattle.qs_machine.specs.Receiving.{TakesPayload}

abbrev pub standard : Settings
standard = record { conn_window = 4096; bidi_local = 1024; bidi_remote = 1024; uni = 1024; send_buffer = 2048; grant_bidi = 8; grant_uni = 8; lifetime_bidi = 8; lifetime_uni = 8 }

abbrev pub widest : Settings
widest =
    record {
      conn_window = MAX_CONN_WINDOW;
      bidi_local = MAX_WINDOW;
      bidi_remote = MAX_WINDOW;
      uni = MAX_WINDOW;
      send_buffer = MAX_WINDOW;
      grant_bidi = MAX_GRANT;
      grant_uni = MAX_GRANT;
      lifetime_bidi = MAX_LIFETIME;
      lifetime_uni = MAX_LIFETIME;
    }

-- Each setting may be the greatest of its wide range, and none more; no window may be 0, and no lifetime below its grant. What scripts
-- have is narrower.
pub record RangesHold : Type 0 where
  pub widest_is : are_in_wide_range widest ≡ true
  pub conn_window : are_in_wide_range (record widest { conn_window = MAX_CONN_WINDOW + 1 }) ≡ false
  pub bidi_local : are_in_wide_range (record widest { bidi_local = MAX_WINDOW + 1 }) ≡ false
  pub bidi_remote : are_in_wide_range (record widest { bidi_remote = MAX_WINDOW + 1 }) ≡ false
  pub uni : are_in_wide_range (record widest { uni = MAX_WINDOW + 1 }) ≡ false
  pub send_buffer : are_in_wide_range (record widest { send_buffer = MAX_WINDOW + 1 }) ≡ false
  pub grant : are_in_wide_range (record widest { grant_bidi = MAX_GRANT + 1 }) ≡ false
  pub lifetime : are_in_wide_range (record widest { lifetime_uni = MAX_LIFETIME + 1 }) ≡ false
  pub no_window : are_in_wide_range (record widest { uni = 0 }) ≡ false
  pub below_grant : are_in_wide_range (record widest { lifetime_bidi = MAX_GRANT - 1 }) ≡ false
  pub standard_is : are_in_range standard ≡ true
  pub narrow_window : are_in_range (record standard { uni = 2 ^ 20 + 1 }) ≡ false
  pub narrow_lifetime : are_in_range (record standard { lifetime_uni = 2 ^ 16 + 1 }) ≡ false

-- a server with these settings, and a client whose peer has these; the other end has the standard ones
abbrev pub server : Settings → End
server s = new_end Server s default_tuning (limits_of standard)

abbrev pub client_of : Settings → End
client_of peer = new_end Client standard default_tuning (limits_of peer)

abbrev pub letters : ℕ → List ℕ
letters n = replicate n 97

abbrev pub after : Seen → End → End
after f e = frame_taken f e

-- A server with a stream window of 10 takes 10 bytes, and not 11, and no frame that ends past them, even one without bytes.
pub record StreamLimitHolds : Type 0 where
  pub within : verdict (server (record standard { bidi_remote = 10 })) (Stream 0 0 (letters 10) false) ≡ None
  pub past : verdict (server (record standard { bidi_remote = 10 })) (Stream 0 0 (letters 11) false) ≡ Some FLOW_CONTROL_ERROR
  pub empty_past : verdict (server (record standard { bidi_remote = 10 })) (Stream 0 11 [] false) ≡ Some FLOW_CONTROL_ERROR

abbrev pub narrow : Settings
narrow = record standard { conn_window = 10; bidi_remote = 10 }

-- A server with a connection window of 10, once 6 bytes came on one stream, takes 4 bytes on another, and not 5. The bytes that came
-- already spend nothing.
pub record ConnectionLimitHolds : Type 0 where
  pub within : verdict (after (Stream 0 0 (letters 6) false) (server narrow)) (Stream 4 0 (letters 4) false) ≡ None
  pub past : verdict (after (Stream 0 0 (letters 6) false) (server narrow)) (Stream 4 0 (letters 5) false) ≡ Some FLOW_CONTROL_ERROR
  pub again : verdict (after (Stream 0 0 (letters 6) false) (server narrow)) (Stream 0 0 (letters 10) false) ≡ None
  pub reset : verdict (after (Stream 0 0 (letters 6) false) (server narrow)) (Control (ResetStream 4 7 5)) ≡ Some FLOW_CONTROL_ERROR

-- a server that was told the end of stream 0 after 5 bytes
abbrev pub told_end : End
told_end = after (Stream 0 0 (letters 5) true) (server standard)

-- Once a final size is known, no byte lies past it and no other one is named. A frame without bytes may lie past it.
pub record FinalSizeHolds : Type 0 where
  pub past : verdict told_end (Stream 0 5 (letters 1) false) ≡ Some FINAL_SIZE_ERROR
  pub smaller : verdict told_end (Stream 0 0 (letters 4) true) ≡ Some FINAL_SIZE_ERROR
  pub again : verdict told_end (Stream 0 0 (letters 5) true) ≡ None
  pub empty_past : verdict told_end (Stream 0 9 [] false) ≡ None
  pub reset_smaller : verdict told_end (Control (ResetStream 0 0 4)) ≡ Some FINAL_SIZE_ERROR
  pub before_credit : verdict (after (Stream 0 0 (letters 1) true) (server narrow)) (Stream 0 10 (letters 1) false) ≡ Some FINAL_SIZE_ERROR
  pub below_highest : verdict (after (Stream 0 0 (letters 5) false) (server standard)) (Control (ResetStream 0 0 4)) ≡ Some FINAL_SIZE_ERROR

-- three bytes from the begin of stream 0 on, and one byte past the first
abbrev pub three_bytes : Seen
three_bytes = Stream 0 0 (97 ∷ 98 ∷ 99 ∷ []) false

abbrev pub second_byte : ℕ → Seen
second_byte byte = Stream 0 1 (byte ∷ []) false

-- A byte that is still stored doesn't change: it may come again, and no other one in its place. Once it was read it isn't compared, and
-- the credit is looked at first.
pub record ChangedBytesClose : Type 0 where
  pub changed : verdict (after three_bytes (server standard)) (second_byte 88) ≡ Some PROTOCOL_VIOLATION
  pub same : verdict (after three_bytes (server standard)) (second_byte 98) ≡ None
  pub read : verdict (on_recv 0 (λ l. after_read l 3) (after three_bytes (server standard))) (second_byte 88) ≡ None
  pub after_credit : verdict (after three_bytes (server (record standard { conn_window = 3 }))) (Stream 0 1 (88 ∷ 99 ∷ 100 ∷ []) false) ≡ Some FLOW_CONTROL_ERROR

-- A server takes frames on streams that it opened, and on the peer's within the grant, in the direction in which the peer may use them.
pub record StreamStateHolds : Type 0 where
  pub own_bidi : verdict (server standard) (Stream 1 0 (letters 1) false) ≡ Some STREAM_STATE_ERROR
  pub own_uni : verdict (server standard) (Stream 3 0 (letters 1) false) ≡ Some STREAM_STATE_ERROR
  pub past_grant : verdict (server (record standard { grant_bidi = 1 })) (Stream 4 0 (letters 1) false) ≡ Some STREAM_LIMIT_ERROR
  pub within_grant : verdict (server standard) (Stream 28 0 (letters 1) false) ≡ None
  pub limit_of_own : verdict (server standard) (Control (MaxStreamData 1 10)) ≡ Some STREAM_STATE_ERROR
  pub limit_of_peers_uni : verdict (server standard) (Control (MaxStreamData 2 10)) ≡ Some STREAM_STATE_ERROR
  pub stop_of_peers_uni : verdict (server standard) (Control (StopSending 2 0)) ≡ Some STREAM_STATE_ERROR
  pub reset_of_own : verdict (server standard) (Control (ResetStream 1 0 0)) ≡ Some STREAM_STATE_ERROR

-- an end that made packets 0 to 3 takes an ACK of them, and none of a later one
pub record UnusedNumbersClose : Type 0 where
  pub used : verdict (record (client_of standard) { next = 4 }) (Ack 3 ((0, 3) ∷ [])) ≡ None
  pub unused : verdict (record (client_of standard) { next = 4 }) (Ack 9 ((9, 9) ∷ [])) ≡ Some PROTOCOL_VIOLATION

-- a limit moves once its share of the window was taken, and never falls
pub record LimitsMove : Type 0 where
  pub early : next_limit 10 4 10 Half ≡ 10
  pub half : next_limit 10 5 10 Half ≡ 15
  pub odd : next_limit 3 1 3 Half ≡ 4
  pub before_a_sixteenth : next_limit 32 1 32 Sixteenth ≡ 32
  pub quarter : next_limit 32 8 32 Quarter ≡ 40
  pub eighth : next_limit 32 4 32 Eighth ≡ 36
  pub sixteenth : next_limit 32 2 32 Sixteenth ≡ 34
  pub narrow : next_limit 3 1 3 Sixteenth ≡ 4
  pub last : next_limit 4611686018427387902 4611686018427387903 10 Half ≡ 4611686018427387903

-- a frame on the peer's eighth stream opens the seven before it
abbrev pub LowerStreamsOpen : Type 0
LowerStreamsOpen = length (after (Stream 28 0 (letters 1) false) (server standard)).recvs.client_bidi ≡ 8

-- a client that opened stream 0, wrote three bytes and sent them
abbrev pub sender : End
sender = on_send 0 (λ l. sent_lane (write_lane l (letters 3)) (record { offset = 0; len = 3; fin = false })) (opens 0 (client_of standard))

-- A STOP_SENDING resets the half with the code copied and the sent end as final size, which is then to be told.
pub record StopResets : Type 0 where
  pub tells : IsCurrent (after (Control (StopSending 0 7)) sender) (ResetStream 0 7 3)
  pub state_is : (l : SendLane) × (send_lane (after (Control (StopSending 0 7)) sender) 0 ≡ Some l) × (state l ≡ ResetSent)

-- the same of one whose owner answers a STOP_SENDING
abbrev pub asked : End
asked = record sender { tuning = record default_tuning { answers_stops = true } }

-- Where the owner answers it, the code is kept, and the half goes on (RFC 9000, section 3.5).
pub record StopIsAnswered : Type 0 where
  pub goes_on : (l : SendLane) × (send_lane (after (Control (StopSending 0 7)) asked) 0 ≡ Some l) × (l.was_reset ≡ None) × (l.stopped ≡ Some 7)

-- a client whose peer allows 10 bytes on a stream, once it wrote 15 and sent 10
abbrev pub blocked : End
blocked = on_send 0 (λ l. sent_lane (write_lane l (letters 15)) (record { offset = 0; len = 10; fin = false })) (opens 0 (client_of (record standard { bidi_remote = 10 })))

-- It tells that it is blocked, and no more once the limit is raised.
pub record BlockedIsTold : Type 0 where
  pub tells : IsCurrent blocked (StreamDataBlocked 0 10)
  pub raised : IsCurrent (after (Control (MaxStreamData 0 15)) blocked) (StreamDataBlocked 0 10) → ⊥

-- the frames of a payload: four bytes on stream 0, a reset of it, one byte on stream 4
abbrev pub three_frames : List PlacedValue
three_frames =
    record { place = 0; frame = stream 0 0 false (letters 4); frame_type = 0x0a }
    ∷ record { place = 7; frame = reset_stream 0 7 4; frame_type = 0x04 }
    ∷ record { place = 11; frame = stream 4 0 false (letters 1); frame_type = 0x0a }
    ∷ []

-- their bytes
abbrev pub three_frames_text : List ℕ
three_frames_text = 0x0a ∷ 0 ∷ 4 ∷ 97 ∷ 97 ∷ 97 ∷ 97 ∷ 0x04 ∷ 0 ∷ 7 ∷ 4 ∷ 0x0a ∷ 4 ∷ 1 ∷ 97 ∷ []

abbrev pub third_offends : Closing
third_offends = record { code = FLOW_CONTROL_ERROR; frame_type = 0x0a; place = 11 }

-- With a connection window of 4 the third frame closes: no limit rises between the frames of a payload, and it rises as the call ends.
pub record LimitsRiseAfterwards : Type 0 where
  pub left : End
  pub reads : reading_of three_frames_text ≡ record { left = three_frames; fault = None }
  pub closes : TakesPayload 0 three_frames_text (server (record standard { conn_window = 4 })) (Err third_offends) left
  pub granted : (settle left).granted ≡ 8

-- a server with a stream window of 10 whose reader read half of the 10 bytes that came, as the call ends
abbrev pub half_read : End
half_read =
    settle (on_recv 0 (λ l. record l { arrived = record l.arrived { read_count = 5 } }) (after (Stream 0 0 (letters 10) false) (server (record standard { bidi_remote = 10 }))))

-- The new limit is told, until it is acknowledged.
pub record NewLimitIsTold : Type 0 where
  pub tells : IsDueItem half_read (MaxStreamData 0 15)
  pub once : IsDueItem (item_acked (MaxStreamData 0 15) half_read) (MaxStreamData 0 15) → ⊥

-- a reset came on the peer's stream, and its reader was told so
abbrev pub told_reset : ℕ → End → End
told_reset n e = on_recv n (λ l. after_read l 1) (after (Control (ResetStream n 7 0)) e)

-- a server that grants one stream of each type at first and two in all, once that happened on the first ones, as the call ends
abbrev pub two_told : End
two_told = settle (told_reset 0 (told_reset 2 (server (record standard { grant_bidi = 1; lifetime_bidi = 2; grant_uni = 1; lifetime_uni = 2 }))))

-- A unidirectional stream that ended makes room for one more, which is told. A bidirectional one does so once its sending half ended too.
-- No more streams are granted than in the lifetime.
pub record StreamCountsGrow : Type 0 where
  pub uni : two_told.granted_uni ≡ 2
  pub tells : IsDueItem two_told (MaxStreams Uni 2)
  pub once : IsDueItem (item_acked (MaxStreams Uni 2) two_told) (MaxStreams Uni 2) → ⊥
  pub within : verdict two_told (Control (ResetStream 6 7 0)) ≡ None
  pub past : verdict two_told (Control (ResetStream 10 7 0)) ≡ Some STREAM_LIMIT_ERROR
  pub one_half : two_told.granted_bidi ≡ 1
  pub both_halves : (settle (on_send 0 reset_acked_lane two_told)).granted_bidi ≡ 2
  pub no_more : (settle (told_reset 6 two_told)).granted_uni ≡ 2

-- a client that opened stream 0 and finished it with nothing written
abbrev pub ended : End
ended = on_send 0 finish_lane (opens 0 (client_of standard))

-- Its next packet may hold a STREAM frame with the end and no byte, and no such frame without the end.
pub record EmptyStreamIsSent : Type 0 where
  pub left : End
  pub lawful : Lawful ended (Stream 0 0 [] true ∷ []) left
  pub sent : (l : SendLane) × (send_lane left 0 ≡ Some l) × (state l ≡ DataSent)
  pub not_without : MayPut ended ended (Stream 0 0 [] false) → ⊥

abbrev pub first_part : Chunk
first_part = record { offset = 0; len = 3; fin = false }

abbrev pub second_part : Chunk
second_part = record { offset = 3; len = 3; fin = false }

-- a client that sent two parts of stream 0 in two packets
abbrev pub two_sent : End
two_sent =
    record sender {
      next = 2;
      outstanding = fmap.from_sorted ((0, Data 0 first_part ∷ []) ∷ (1, Data 0 second_part ∷ []) ∷ []);
    }

-- An ACK takes the pieces of the packets that it names, the highest first, and no others; numbers that aren't outstanding change nothing.
pub record AcksTakeWhatTheyName : Type 0 where
  pub one : named two_sent ((1, 1) ∷ []) ≡ acked_at false 1 (Data 0 second_part) ∷ []
  pub both : named two_sent ((0, 1) ∷ []) ≡ acked_at false 1 (Data 0 second_part) ∷ acked_at false 0 (Data 0 first_part) ∷ []
  pub none : named two_sent ((5, 9) ∷ (3, 3) ∷ []) ≡ []

pub record Examples : Type 0 where
  pub ranges : RangesHold
  pub stream_limit : StreamLimitHolds
  pub connection_limit : ConnectionLimitHolds
  pub final_size : FinalSizeHolds
  pub changed_bytes : ChangedBytesClose
  pub stream_state : StreamStateHolds
  pub unused_numbers : UnusedNumbersClose
  pub limits : LimitsMove
  pub lower_streams : LowerStreamsOpen
  pub stop : StopResets
  pub stop_answered : StopIsAnswered
  pub blocked_stream : BlockedIsTold
  pub afterwards : LimitsRiseAfterwards
  pub new_limit : NewLimitIsTold
  pub counts : StreamCountsGrow
  pub empty_stream : EmptyStreamIsSent
  pub acks : AcksTakeWhatTheyName
