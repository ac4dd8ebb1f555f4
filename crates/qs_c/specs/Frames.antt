-- Of public contracts.
-- How C is told a frame and gives one, and what the calls of frames answer. All of it is ours.
use Rattle.std.specs.Prelude.{◌≡◌, ℕ, ◌+◌, ◌<◌, ◌≤◌, ◌⊎◌, Bool, true, false, List, [], ◌∷◌, ◌++◌, length, take, drop, Option, Some, None, nat_eq, nat_lt, nat_le, ◌&&◌, MatchBool, if◌then◌else◌}
use Rattle.qs_wire.specs.declared.stream_id.Dir.{Dir}
use Rattle.qs_wire.specs.declared.stream_id.Dir.TheVariants.{Bidi, Uni}
use Rattle.qs_wire.specs.declared.fault.WireFault.{WireFault}
use Rattle.qs_wire.specs.declared.frame.EcnCounts.{EcnCounts}
use Rattle.qs_wire.specs.Faults.{kind_number}
use Rattle.qs_wire.specs.Varint.{numbers_of}
use Rattle.qs_wire.specs.Layout.{FrameValue, PlacedValue, padding, ping, ack, reset_stream, stop_sending, crypto, new_token, stream, max_data, max_stream_data, max_streams, data_blocked, stream_data_blocked, streams_blocked, new_connection_id, retire_connection_id, path_challenge, path_response, connection_close, application_close, handshake_done}
use Rattle.qs_wire.specs.Grammar.{canonical, Fits, NumbersText}
use Rattle.qs_wire.specs.Reading.{Reading, reading_from}
use Rattle.qs_c.specs.declared.frame.GvFrame.{GvFrame}
use Rattle.qs_c.specs.declared.frame.GvFault.{GvFault}
use Rattle.qs_c.specs.Statuses.{Invalid, dir_of, is_flag, is_small}

-- Frames that are told

-- a frame of a kind that has no number
abbrev pub of_kind : ℕ → GvFrame
of_kind n = record { kind = n; dir = 0; fin = false; has_ecn = false; place = 0; frame_type = 0; stream = 0; offset = 0; code = 0; final_size = 0; limit = 0; largest = 0; delay = 0; ect0 = 0; ect1 = 0; ce = 0; sequence = 0; retire = 0; at_fault = 0; bytes_at = 0; len = 0; token_at = 0 }

abbrev pub dir_number : Dir → ℕ
dir_number Bidi = 0
dir_number Uni = 1

abbrev pub with_counts : Option EcnCounts → GvFrame → GvFrame
with_counts None f = f
with_counts (Some counts) f = record f { has_ecn = true; ect0 = counts.ect0; ect1 = counts.ect1; ce = counts.ce }

-- a frame's kind and numbers; what a frame of its kind doesn't have is 0
abbrev pub numbers_told : FrameValue → GvFrame
numbers_told padding = of_kind 0
numbers_told ping = of_kind 1
numbers_told (ack largest delay ranges ecn) = with_counts ecn (record (of_kind 2) { largest = largest; delay = delay })
numbers_told (reset_stream s code size) = record (of_kind 3) { stream = s; code = code; final_size = size }
numbers_told (stop_sending s code) = record (of_kind 4) { stream = s; code = code }
numbers_told (crypto offset bytes) = record (of_kind 5) { offset = offset }
numbers_told (new_token bytes) = of_kind 6
numbers_told (stream s offset fin bytes) = record (of_kind 7) { stream = s; offset = offset; fin = fin }
numbers_told (max_data limit) = record (of_kind 8) { limit = limit }
numbers_told (max_stream_data s limit) = record (of_kind 9) { stream = s; limit = limit }
numbers_told (max_streams dir count) = record (of_kind 10) { dir = dir_number dir; limit = count }
numbers_told (data_blocked limit) = record (of_kind 11) { limit = limit }
numbers_told (stream_data_blocked s limit) = record (of_kind 12) { stream = s; limit = limit }
numbers_told (streams_blocked dir count) = record (of_kind 13) { dir = dir_number dir; limit = count }
numbers_told (new_connection_id sequence retire id token) = record (of_kind 14) { sequence = sequence; retire = retire }
numbers_told (retire_connection_id sequence) = record (of_kind 15) { sequence = sequence }
numbers_told (path_challenge bytes) = of_kind 16
numbers_told (path_response bytes) = of_kind 17
numbers_told (connection_close code type reason) = record (of_kind 18) { code = code; at_fault = type }
numbers_told (application_close code reason) = record (of_kind 19) { code = code }
numbers_told handshake_done = of_kind 20

-- the bytes of a frame, and the 16 bytes of its token, where it has them
abbrev pub Has : FrameValue → List ℕ → List ℕ → Type 0
Has (ack largest delay ranges ecn) bytes token = NumbersText ranges bytes
Has (crypto offset b) bytes token = bytes ≡ b
Has (new_token b) bytes token = bytes ≡ b
Has (stream s offset fin b) bytes token = bytes ≡ b
Has (new_connection_id sequence retire id t) bytes token = (bytes ≡ id) × (token ≡ t) × (length token ≡ 16)
Has (path_challenge b) bytes token = bytes ≡ b
Has (path_response b) bytes token = bytes ≡ b
Has (connection_close code type reason) bytes token = bytes ≡ reason
Has (application_close code reason) bytes token = bytes ≡ reason
Has _ bytes token = bytes ≡ []

-- what stands in a payload at a place
abbrev pub part_of : List ℕ → ℕ → ℕ → List ℕ
part_of payload at len = take len (drop at payload)

-- A frame of a payload as it is told: its numbers, and where in the payload its bytes and its token stand.
pub record IsTold (payload : List ℕ) (p : PlacedValue) (f : GvFrame) : Type 0 where
  pub numbers : f ≡ record (numbers_told p.frame) { place = p.place; frame_type = p.frame_type; bytes_at = f.bytes_at; len = f.len; token_at = f.token_at }
  pub within : f.bytes_at + f.len ≤ length payload
  pub has : Has p.frame (part_of payload f.bytes_at f.len) (part_of payload f.token_at 16)

abbrev pub fault_of : WireFault → GvFault
fault_of w = record { kind = kind_number w.kind; code = w.code; frame_type = w.frame_type; place = w.place }

-- what is read of a payload from a place on
abbrev pub reading_at : List ℕ → ℕ → Reading
reading_at payload place = reading_from place (drop place payload)

-- What a walk over the frames of a payload writes: its place, a frame and a fault.
pub record Walk : Type 0 where
  pub place : ℕ
  pub frame : GvFrame
  pub fault : GvFault

-- The walk moves on behind a frame, which is told, to what is left.
pub record MovesOn (payload : List ℕ) (p : PlacedValue) (rest : Reading) (old new : Walk) : Type 0 where
  pub frame : IsTold payload p new.frame
  pub further : old.place < new.place
  pub within : new.place ≤ length payload
  pub left : reading_at payload new.place ≡ rest
  pub fault : new.fault ≡ old.fault

-- The next of these frames is told; at the end none is; or the fault that stands in place of one.
abbrev pub NextFrame : List PlacedValue → Option WireFault → List ℕ → ℕ → Walk → Walk → Type 0
NextFrame (p ∷ ps) fault payload status old new = (status ≡ 0) × MovesOn payload p (record { left = ps; fault = fault }) old new
NextFrame [] None payload status old new = (status ≡ 15) × (new ≡ old)
NextFrame [] (Some w) payload status old new = (status ≡ 21) × (new ≡ record old { fault = fault_of w })

-- A place that the payload has: else the call is refused.
abbrev pub NextAnswer : List ℕ → ℕ → Walk → Walk → Type 0
NextAnswer payload status old new =
    let reading = reading_at payload old.place in
    MatchBool (nat_le old.place (length payload)) (NextFrame reading.left reading.fault payload status old new) (Invalid status old new)

-- Frames that are given

abbrev pub some_if : {A : Type 0} → Bool → A → Option A
some_if there a = if there then Some a else None

abbrev pub counts_in : GvFrame → EcnCounts
counts_in f = record { ect0 = f.ect0; ect1 = f.ect1; ce = f.ce }

-- The frame of one of the kinds and in one of the directions, of which these are the bytes and the token.
abbrev pub frame_in : GvFrame → List ℕ → List ℕ → FrameValue
frame_in f bytes token =
    if nat_eq f.kind 0 then padding else
    if nat_eq f.kind 1 then ping else
    if nat_eq f.kind 2 then ack f.largest f.delay (numbers_of bytes) (some_if f.has_ecn (counts_in f)) else
    if nat_eq f.kind 3 then reset_stream f.stream f.code f.final_size else
    if nat_eq f.kind 4 then stop_sending f.stream f.code else
    if nat_eq f.kind 5 then crypto f.offset bytes else
    if nat_eq f.kind 6 then new_token bytes else
    if nat_eq f.kind 7 then stream f.stream f.offset f.fin bytes else
    if nat_eq f.kind 8 then max_data f.limit else
    if nat_eq f.kind 9 then max_stream_data f.stream f.limit else
    if nat_eq f.kind 10 then max_streams (dir_of f.dir) f.limit else
    if nat_eq f.kind 11 then data_blocked f.limit else
    if nat_eq f.kind 12 then stream_data_blocked f.stream f.limit else
    if nat_eq f.kind 13 then streams_blocked (dir_of f.dir) f.limit else
    if nat_eq f.kind 14 then new_connection_id f.sequence f.retire bytes token else
    if nat_eq f.kind 15 then retire_connection_id f.sequence else
    if nat_eq f.kind 16 then path_challenge bytes else
    if nat_eq f.kind 17 then path_response bytes else
    if nat_eq f.kind 18 then connection_close f.code f.at_fault bytes else
    if nat_eq f.kind 19 then application_close f.code bytes else handshake_done

-- A text is written at the front, and its length, where there is room for it.
abbrev pub written : List ℕ → ℕ → List ℕ → ℕ × ℕ × List ℕ
written text len out = if nat_le (length text) (length out) then (0, length text, text ++ drop (length text) out) else (22, len, out)

-- The frame has a text: its values can be spelled, and the bytes of an ACK are its ranges' numbers, the last one whole (RFC 9000, section 19.3.1).
abbrev pub HasText : GvFrame → List ℕ → List ℕ → Type 0
HasText f bytes token = Fits (frame_in f bytes token) × (f.kind ≡ 2 → NumbersText (numbers_of bytes) bytes)

-- A frame is written where it has a text, and else refused.
abbrev pub PutAnswer : GvFrame → List ℕ → List ℕ → ℕ × ℕ × List ℕ → ℕ → List ℕ → Type 0
PutAnswer f bytes token answer len out =
    (HasText f bytes token × (answer ≡ written (canonical (frame_in f bytes token)) len out)) ⊎ ((HasText f bytes token → ⊥) × (answer ≡ (1, len, out)))

-- A frame that C gives, of one of the kinds and in one of the directions.
abbrev pub GivenAnswer : GvFrame → List ℕ → List ℕ → ℕ × ℕ × List ℕ → ℕ → List ℕ → Type 0
GivenAnswer f bytes token answer len out =
    MatchBool (nat_lt f.kind 21 && is_flag f.dir) (PutAnswer f bytes token answer len out) (answer ≡ (1, len, out))

-- A frame that C hands in: of one of the kinds, in one of the directions, and of a stream that has a number.
abbrev pub is_frame : GvFrame → Bool
is_frame f = nat_lt f.kind 21 && is_flag f.dir && is_small f.stream
