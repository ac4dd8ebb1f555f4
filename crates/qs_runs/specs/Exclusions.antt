-- Of laws.
-- What two ends that agree exclude, clause by clause, and what the premises of a run leave out and let in, row by row of `May`
-- (RFC 9000, sections 2.2, 3, 4, 10.2, 12.4, 13.1 and 13.3).
use Rattle.std.specs.Prelude.{◌≡◌, ℕ, ◌+◌, true, false, List, [], ◌∷◌, ◌++◌, None, Some, Ok, Err}
use Rattle.qs_ranges.specs.Numbers.{numbers}
use Rattle.qs_wire.specs.Layout.{FrameValue, ping, ack, crypto, max_data, stream_data_blocked, connection_close}
use Rattle.qs_wire.specs.Reading.{reading_of}
use Rattle.qs_wire.specs.declared.fault.WireFault.{WireFault}
use Rattle.qs_recv.specs.Lane.{RecvLane}
use Rattle.qs_recv.specs.declared.half.Peek.{Peek}
use Rattle.qs_send.specs.Lane.{SendLane}
use Rattle.qs_send.specs.declared.piece.Item.TheVariants.{MaxData, ResetStream}
use Rattle.qs_calls.specs.Settings.{limits_of}
use Rattle.qs_calls.specs.declared.closing.Closing.{Closing}
use Rattle.qs_calls.specs.declared.closing.Closed.TheVariants.{ByUs, ByPeer}
use Rattle.qs_calls.specs.declared.closing.Received.TheVariants.{Done, NoMemory}
use Rattle.qs_calls.specs.declared.closing.NotedClose.{NotedClose}
use Rattle.qs_calls.specs.declared.settings.PeerLimits.{PeerLimits}
use Rattle.qs_calls.specs.declared.token.Taken.TheVariants.{Took}
use Rattle.qs_calls.specs.declared.token.TakeFault.TheVariants as faults
use Rattle.qs_calls.specs.declared.event.Side.TheVariants.{A, B}
use Rattle.qs_machine.specs.Ends.{End}
use Rattle.qs_machine.specs.Seen.{Seen, Stream, Control, Plain}
use Rattle.qs_machine.specs.Plains.{DifferInPlain, frames_in}
use Rattle.qs_machine.specs.Examples.{standard, server, client_of}
use Rattle.qs_machine.specs.SmallEnds.{client_with, server_with, abc, wrote as wrote_half, sent, fresh, all_came}
use Rattle.qs_machine.specs.EndStep.{Call, Answer, Accept, Receive, TakeFrame, TakeFrames, TokenAcked, Make, Claim, RaiseLimits, NoteClosed}
use Rattle.qs_runs.specs.Logs.{Happening, History, shown, was_noted_closed, HasLanded, ping_text}
use Rattle.qs_runs.specs.Worlds.{World, WorldStep, May, AreGranted, Begins}
use Rattle.qs_runs.specs.Agree.{PrefixAgrees, IsTakenAsShown, ShownAgrees, WholeAgrees, FinalSizesAgree, Agree, IsOld, StepAgrees}
use Rattle.qs_runs.specs.Examples.{at, wrote, got, looked, told_end, took_out, story, packet, came, token}

-- It doesn't agree (section 2.2) that what was read
pub record ReadIsNoPrefix (other : List ℕ) : Type 0 where
  -- has another byte than was written
  pub other_byte : PrefixAgrees (got B other ∷ wrote A abc 3 ∷ []) A 0 → ⊥
  -- is more than was written
  pub more : PrefixAgrees (got B abc ∷ wrote A abc 2 ∷ []) A 0 → ⊥
  -- is less, once the end was told
  pub less : PrefixAgrees (told_end B ∷ wrote A abc 3 ∷ []) A 0 → ⊥
  -- nor what was taken without a copy, where it has another byte
  pub other_taken : PrefixAgrees (took_out B other false ∷ wrote A abc 3 ∷ []) A 0 → ⊥
  -- or is less, once the end was told
  pub less_taken : PrefixAgrees (took_out B abc true ∷ wrote A abc 3 ∷ wrote A abc 3 ∷ []) A 0 → ⊥

-- It doesn't agree (section 2.2) that what a look shows
pub record LooksAreOther (other : List ℕ) (peek : Peek) : Type 0 where
  -- has another byte than was written
  pub other_byte : shown B 0 (looked B peek ∷ []) ≡ other → ShownAgrees (looked B peek ∷ wrote A abc 3 ∷ []) A 0 → ⊥
  -- is more than was written
  pub more : shown B 0 (looked B peek ∷ []) ≡ abc → ShownAgrees (looked B peek ∷ wrote A abc 2 ∷ []) A 0 → ⊥
  -- was read before
  pub again : shown B 0 (looked B peek ∷ []) ≡ abc → ShownAgrees (looked B peek ∷ got B abc ∷ wrote A abc 3 ∷ []) A 0 → ⊥
  -- nor that what is taken then isn't what was shown
  pub taken : shown B 0 (looked B peek ∷ []) ≡ abc → IsTakenAsShown 0 (took_out B other false ∷ looked B peek ∷ []) → ⊥
  pub read : shown B 0 (looked B peek ∷ []) ≡ abc → IsTakenAsShown 0 (got B other ∷ looked B peek ∷ []) → ⊥
  -- though nothing is said once it was read
  pub read_before : IsTakenAsShown 0 (got B other ∷ got B abc ∷ [])

abbrev pub both : End → End → World
both a b = record { a = a; b = b }

-- a half of which all was sent and acknowledged, three bytes and the end
abbrev pub acknowledged : SendLane
acknowledged = record sent { kept = []; acked = numbers 0 3; finished = true; fin_sent = true; fin_acked = true }

-- a half that knows the final size 3, of which the first byte came
abbrev pub first_of_three : RecvLane
first_of_three = record fresh { arrived = record fresh.arrived { received = numbers 0 1 }; final_size = Some 3 }

-- Data Recvd doesn't agree (section 3.1)
pub record WholeIsMissing : Type 0 where
  -- with a receiver that has no such half
  pub unopened : WholeAgrees (wrote A abc 3 ∷ []) (both (client_with acknowledged) (server standard)) A 0 → ⊥
  -- that lacks an offset
  pub offset : WholeAgrees (wrote A abc 3 ∷ []) (both (client_with acknowledged) (server_with first_of_three)) A 0 → ⊥
  -- that doesn't know the final size
  pub unsized : WholeAgrees (wrote A abc 3 ∷ []) (both (client_with acknowledged) (server_with (record all_came { final_size = None }))) A 0 → ⊥
  -- that knows another one than was written
  pub other_size : WholeAgrees (wrote A abc 2 ∷ []) (both (client_with acknowledged) (server_with all_came)) A 0 → ⊥

-- A known final size doesn't agree (section 4.5)
pub record SizesDiffer : Type 0 where
  -- with a sender that has no such half
  pub unopened : FinalSizesAgree (both (client_of standard) (server_with all_came)) A 0 → ⊥
  -- that declared none
  pub undeclared : FinalSizesAgree (both (client_with sent) (server_with all_came)) A 0 → ⊥
  -- that declared another one
  pub other_size : FinalSizesAgree (both (client_with (record sent { kept = []; was_reset = Some (record { code = 7; size = 2 }) })) (server_with all_came)) A 0 → ⊥
  -- nor does a known reset's code with another one
  pub other_code : FinalSizesAgree (both (client_with (record sent { kept = []; was_reset = Some (record { code = 7; size = 3 }) })) (server_with (record all_came { reset_code = Some 8 }))) A 0 → ⊥

-- A world doesn't agree
pub record WorldsDiffer : Type 0 where
  -- where more is spent than was sent (section 4.1)
  pub credit : (h : History) → Agree h (both (client_with wrote_half) (server_with all_came)) → ⊥
  -- where the client closed by itself, and wasn't told to
  pub client_closed : (h : History) (closing : Closing) → was_noted_closed A h ≡ false → Agree h (both (record (client_of standard) { closed = Some (ByUs closing) }) (server standard)) → ⊥
  -- or the server saw a close, and neither end was told of one
  pub server_closed : (h : History) → was_noted_closed B h ≡ false → was_noted_closed A h ≡ false → Agree h (both (client_of standard) (record (server standard) { closed = Some (ByPeer 0) })) → ⊥

-- It is news (sections 2.2 and 4.5)
pub record NewsIsNotOld : Type 0 where
  -- an offset that didn't come
  pub offset : IsOld (server_with first_of_three) (Stream 0 1 (98 ∷ []) false) → ⊥
  -- an offset of a stream that isn't open
  pub unopened : IsOld (server standard) (Stream 0 0 (97 ∷ []) false) → ⊥
  -- a final size that isn't known
  pub end : IsOld (server_with fresh) (Stream 0 0 [] true) → ⊥
  -- nor by a reset
  pub reset : IsOld (server_with fresh) (Control (ResetStream 0 7 0)) → ⊥
  -- though a frame with neither a byte nor the end tells nothing, whichever stream it names
  pub nothing : IsOld (server standard) (Stream 0 0 [] false)
  -- and an offset that came is none
  pub came : IsOld (server_with first_of_three) (Stream 0 0 (97 ∷ []) false)

-- A step doesn't agree
pub record StepsSpend (text : List ℕ) : Type 0 where
  -- where a packet that was processed changes the end, in whatever bytes it comes
  pub again : (bytes : List ℕ) → StepAgrees (story text) (both (client_of standard) (server standard)) (came B 0 bytes Done) (both (client_of standard) (server_with fresh)) → ⊥
  -- where what tells nothing new spends credit: a packet, a frame alone, or another call
  pub old_news : StepAgrees [] (both (client_of standard) (server_with fresh)) (came B 0 (1 ∷ []) Done) (both (client_of standard) (server_with all_came)) → ⊥
  pub old_frame : StepAgrees [] (both (client_of standard) (server_with fresh)) (at B (TakeFrame ping) (Ok Took)) (both (client_of standard) (server_with all_came)) → ⊥
  pub other_call : StepAgrees [] (both (client_of standard) (server_with fresh)) (at B Accept None) (both (client_of standard) (server_with all_came)) → ⊥

-- a packet of two frames, a MAX_DATA of 5 and one of 6 (RFC 9000, section 19.9)
abbrev pub two_frames : List ℕ
two_frames = 0x10 ∷ 5 ∷ 0x10 ∷ 6 ∷ []

-- A made packet 0 of them
abbrev pub two_made : Happening
two_made = record { end = A; call = Make 0 0 1200; answer = (Ok (Some (record { number = 0; len = 4; is_ack_eliciting = true })), two_frames) }

abbrev pub sent_two : History
sent_two = two_made ∷ []

-- B took these frames alone
abbrev pub took : List FrameValue → Happening
took fs = record { end = B; call = TakeFrames fs; answer = Ok Took }

-- it took its payload under that number, in these bytes
abbrev pub came_as : List ℕ → Happening
came_as bytes = record { end = B; call = Receive 0 bytes; answer = Ok Done }

-- A payload comes (`Receive`)
pub record PayloadsThatCome (w : World) : Type 0 where
  -- that wasn't made
  pub unmade : May [] w B (Receive 0 two_frames) → ⊥
  -- under another number
  pub other_number : May sent_two w B (Receive 1 two_frames) → ⊥
  -- to the end that made it
  pub its_own : May sent_two w A (Receive 0 two_frames) → ⊥
  -- without one of its frames
  pub left_out : May sent_two w B (Receive 0 (0x10 ∷ 5 ∷ [])) → ⊥
  -- with another value
  pub another : May sent_two w B (Receive 0 (0x10 ∷ 5 ∷ 0x10 ∷ 7 ∷ [])) → ⊥
  -- in another order
  pub turned : May sent_two w B (Receive 0 (0x10 ∷ 6 ∷ 0x10 ∷ 5 ∷ [])) → ⊥
  -- with a CONNECTION_CLOSE behind it
  pub closing : May sent_two w B (Receive 0 (two_frames ++ 0x1d ∷ 0 ∷ 0 ∷ [])) → ⊥
  -- though it may come as it was made
  pub made : May sent_two w B (Receive 0 two_frames)
  -- and with a PING in front, between or behind (section 19.2)
  pub front : May sent_two w B (Receive 0 (1 ∷ two_frames))
  pub between : May sent_two w B (Receive 0 (0x10 ∷ 5 ∷ 1 ∷ 0x10 ∷ 6 ∷ []))
  pub behind : May sent_two w B (Receive 0 (two_frames ++ 1 ∷ []))

-- a CONNECTION_CLOSE (RFC 9000, section 19.19)
abbrev pub closing : List ℕ
closing = 0x1d ∷ 0 ∷ 0 ∷ []

-- A was told of a close
abbrev pub told_A : NotedClose → History
told_A close = at A (NoteClosed close) tt ∷ []

-- A payload comes with a close (`Receive`)
pub record ClosesThatCome (w : World) (close : NotedClose) : Type 0 where
  -- of an end that was told of none
  pub untold : May [] w B (Receive 0 closing) → ⊥
  -- nor be it that the end that it comes to was
  pub its_own : May (told_A close) w A (Receive 0 closing) → ⊥
  -- with a frame of flow control in front, or behind
  pub front : May (told_A close) w B (Receive 0 (0x10 ∷ 5 ∷ closing)) → ⊥
  pub behind : May (told_A close) w B (Receive 0 (closing ++ 0x10 ∷ 5 ∷ [])) → ⊥
  -- without the close
  pub none : May (told_A close) w B (Receive 0 (1 ∷ [])) → ⊥
  -- though it may come alone, and with a PING in front and behind, under any number
  pub alone : (number : ℕ) → May (told_A close) w B (Receive number closing)
  pub plain : (number : ℕ) → May (told_A close) w B (Receive number (1 ∷ closing ++ 1 ∷ []))

-- Frames come alone (`TakeFrame`, `TakeFrames`)
pub record FramesThatCome (w : World) : Type 0 where
  -- that no packet had
  pub unmade : May [] w B (TakeFrame (max_data 5)) → ⊥
  -- with another value
  pub another : May sent_two w B (TakeFrame (max_data 7)) → ⊥
  -- to the end that made them
  pub its_own : May sent_two w A (TakeFrame (max_data 5)) → ⊥
  -- be it one of several
  pub one_of : May sent_two w B (TakeFrames (max_data 5 ∷ ping ∷ max_data 7 ∷ [])) → ⊥
  -- though each that was made may come, in any order and again
  pub made : May sent_two w B (TakeFrame (max_data 6))
  pub several : May sent_two w B (TakeFrames (max_data 6 ∷ max_data 5 ∷ max_data 6 ∷ []))
  -- and frames of the stack's own, whatever was made: PING, ACK, CRYPTO, CONNECTION_CLOSE (sections 19.2, 19.3, 19.6 and 19.19)
  pub own_ping : May [] w B (TakeFrame ping)
  pub own_ack : May [] w B (TakeFrame (ack 3 0 (0 ∷ []) None))
  pub own_crypto : (offset : ℕ) (bytes : List ℕ) → May [] w B (TakeFrame (crypto offset bytes))
  pub own_close : (code kind : ℕ) (reason : List ℕ) → May [] w B (TakeFrame (connection_close code kind reason))
  pub among : May sent_two w B (TakeFrames (ping ∷ max_data 5 ∷ ack 3 0 (0 ∷ []) None ∷ []))

-- A token is acknowledged (`TokenAcked`) at an end of epoch 0
pub record TokensThatAreAcked (w : World) (epoch : w.a.tuning.epoch ≡ 0) : Type 0 where
  -- before its packet was made
  pub unmade : May [] w A (TokenAcked (token 0 0)) → ⊥
  -- as long as nothing of it came
  pub on_its_way : May sent_two w A (TokenAcked (token 0 0)) → ⊥
  -- once one of its frames was taken, be it twice or with one that no packet had
  pub first : May (took (max_data 5 ∷ []) ∷ sent_two) w A (TokenAcked (token 0 0)) → ⊥
  pub twice : May (took (max_data 6 ∷ []) ∷ took (max_data 6 ∷ []) ∷ sent_two) w A (TokenAcked (token 0 0)) → ⊥
  -- where they found no memory
  pub no_memory : May (record { end = B; call = TakeFrames (max_data 5 ∷ max_data 6 ∷ []); answer = Err faults.NoMemory } ∷ sent_two) w A (TokenAcked (token 0 0)) → ⊥
  pub not_processed : May (record { end = B; call = Receive 0 two_frames; answer = Ok NoMemory } ∷ sent_two) w A (TokenAcked (token 0 0)) → ⊥
  -- of two packets, once the frames of the first were taken
  pub half : May (took (max_data 5 ∷ max_data 6 ∷ []) ∷ sent_two) w A (TokenAcked (token 0 1)) → ⊥
  -- though it may be once each was, in any order, with others, together or apart
  pub each : HasLanded (took (max_data 5 ∷ []) ∷ took (ping ∷ max_data 6 ∷ []) ∷ sent_two) A 0
  -- or once the packet was processed, whatever plain frames came with it
  pub processed : HasLanded (came_as (1 ∷ two_frames) ∷ sent_two) A 0
  -- and a token of another epoch may be told: it isn't taken
  pub foreign : May [] w A (TokenAcked (record { epoch = 1; first = 0; number = 0 }))

-- Limits are taken in (`RaiseLimits`), an end is told of a close (`NoteClosed`), and each step
pub record OtherSteps (h : History) (v w : World) : Type 0 where
  -- that the peer doesn't grant
  pub ungranted : (p : PeerLimits) → (AreGranted p v.b.settings → ⊥) → May h v A (RaiseLimits p) → ⊥
  pub ungranted_there : (p : PeerLimits) → (AreGranted p v.a.settings → ⊥) → May h v B (RaiseLimits p) → ⊥
  -- an end may be told of a close at any time
  pub told : (close : NotedClose) → May h v A (NoteClosed close)
  -- the other end changes, whatever the call
  pub other_end : (call : Call) (answer : Answer call) → (w.b ≡ v.b → ⊥) → WorldStep h v (record { end = A; call = call; answer = answer }) w → ⊥
  pub other_end_there : (call : Call) (answer : Answer call) → (w.a ≡ v.a → ⊥) → WorldStep h v (record { end = B; call = call; answer = answer }) w → ⊥
  -- a number is claimed and stays unused, or isn't the next one
  pub unused : (number : ℕ) → WorldStep h v (record { end = A; call = Claim; answer = Ok number }) w → w.a.next ≡ v.a.next → ⊥
  pub not_next : WorldStep h v (record { end = A; call = Claim; answer = Ok (v.a.next + 1) }) w → ⊥
  -- and a step is one of the end
  pub no_answer : WorldStep h v (record { end = A; call = Accept; answer = Some 3 }) w → v.a.closed ≡ Some (ByPeer 0) → ⊥

-- Of a packet with a DATA_BLOCKED, a STREAMS_BLOCKED and a STREAM_DATA_BLOCKED (RFC 9000, sections 19.12 to 19.14)
abbrev pub blocked : List ℕ
blocked = 0x14 ∷ 5 ∷ 0x16 ∷ 6 ∷ 0x15 ∷ 0 ∷ 7 ∷ []

pub record BlockedFramesLand : Type 0 where
  -- the last one has to land
  pub all : HasLanded (packet A blocked ∷ []) A 0 → ⊥
  -- and the first two needn't
  pub one : HasLanded (at B (TakeFrame (stream_data_blocked 0 7)) (Ok Took) ∷ packet A blocked ∷ []) A 0

-- two payloads differ in plain frames alone (RFC 9000, section 12.4), where the one has these frames and the other those
abbrev pub Differ : List Seen → List Seen → Type 0
Differ fs gs = (text other : List ℕ) × (frames_in text ≡ fs) × (frames_in other ≡ gs) × DifferInPlain text other

-- They don't
pub record OtherBytesCome : Type 0 where
  -- where a frame stands behind that does something
  pub not_plain : Differ (Control (MaxData 5) ∷ Stream 0 0 [] true ∷ []) (Control (MaxData 5) ∷ []) → ⊥
  -- where a frame that does something is left out
  pub left_out : Differ (Plain true ∷ []) (Control (MaxData 5) ∷ []) → ⊥
  -- where another one stands there
  pub another : Differ (Control (MaxData 6) ∷ Plain true ∷ []) (Control (MaxData 5) ∷ []) → ⊥
  -- where they stand in another order
  pub turned : Differ (Control (MaxData 6) ∷ Control (MaxData 5) ∷ []) (Control (MaxData 5) ∷ Control (MaxData 6) ∷ []) → ⊥
  -- where one has a fault, as an empty payload has
  pub fault : (text other : List ℕ) (f : WireFault) → (reading_of text).fault ≡ Some f → DifferInPlain text other → ⊥
  pub fault_other : (text other : List ℕ) (f : WireFault) → (reading_of other).fault ≡ Some f → DifferInPlain text other → ⊥
  -- though a PING may stand behind a MAX_DATA, in front of it and between two
  pub behind : DifferInPlain (0x10 ∷ 5 ∷ 1 ∷ []) (0x10 ∷ 5 ∷ [])
  pub front : DifferInPlain (1 ∷ 0x10 ∷ 5 ∷ []) (0x10 ∷ 5 ∷ [])
  pub between : DifferInPlain (0x10 ∷ 5 ∷ 1 ∷ 0x10 ∷ 6 ∷ []) (0x10 ∷ 5 ∷ 0x10 ∷ 6 ∷ [])
  -- and PADDING in the place of a PING
  pub in_place : DifferInPlain (0 ∷ []) ping_text

abbrev pub first : PeerLimits
first = limits_of standard

-- It isn't granted (sections 4.1, 4.6 and 18.2)
pub record LimitsAreAbove : Type 0 where
  pub max_data : AreGranted (record first { max_data = 4097 }) standard → ⊥
  pub bidi_local : AreGranted (record first { bidi_local = 1025 }) standard → ⊥
  pub bidi_remote : AreGranted (record first { bidi_remote = 1025 }) standard → ⊥
  pub uni : AreGranted (record first { uni = 1025 }) standard → ⊥
  pub streams_bidi : AreGranted (record first { streams_bidi = 9 }) standard → ⊥
  pub streams_uni : AreGranted (record first { streams_uni = 9 }) standard → ⊥

-- No two ends begin so
pub record NoneBegin : Type 0 where
  -- the server was told a higher limit than the client grants (section 4.1)
  pub server_told : (w : World) → Begins standard standard w → w.b.peer.max_data ≡ 4097 → ⊥
  -- or the client than the server grants
  pub client_told : (w : World) → Begins standard standard w → w.a.peer.max_data ≡ 4097 → ⊥
  -- or an end made a packet
  pub made : (w : World) → Begins standard standard w → w.a.next ≡ 1 → ⊥

pub record Exclusions : Type 0 where
  pub prefix : ReadIsNoPrefix (97 ∷ 120 ∷ [])
  pub looks : (peek : Peek) → LooksAreOther (97 ∷ 120 ∷ []) peek
  pub whole : WholeIsMissing
  pub final_sizes : SizesDiffer
  pub worlds : WorldsDiffer
  pub news : NewsIsNotOld
  pub spent : (text : List ℕ) → StepsSpend text
  pub payloads : (w : World) → PayloadsThatCome w
  pub closes : (w : World) (close : NotedClose) → ClosesThatCome w close
  pub frames : (w : World) → FramesThatCome w
  pub tokens : (w : World) (epoch : w.a.tuning.epoch ≡ 0) → TokensThatAreAcked w epoch
  pub blocked : BlockedFramesLand
  pub others : (h : History) (v w : World) → OtherSteps h v w
  pub bytes : OtherBytesCome
  pub limits : LimitsAreAbove
  pub begins : NoneBegin
