-- Trusted.
-- The sending lane of a stream, what of it is due, and what each call leaves.
use Rattle.std.specs.Prelude.{ℕ, ◌+◌, ◌-◌, Bool, true, false, not, if◌then◌else◌, ◌&&◌, ◌||◌, ◌==◌, nat_lt, max, min, List, [], ◌++◌, length, take, drop, Option, None, Some, is_some, Result, Ok, Err}
use Rattle.std.specs.FinSet as set
use Rattle.qs_ranges.specs.Numbers.{MAX_VARINT, NumberSet, numbers, missing_from}
use Rattle.qs_send.specs.declared.parts.Chunk.{Chunk}
use Rattle.qs_send.specs.declared.parts.Reset.{Reset}
use Rattle.qs_send.specs.declared.parts.SendFault.{SendFault}
use Rattle.qs_send.specs.declared.parts.SendFault.TheVariants.{Finished, WasReset}
use Rattle.qs_send.specs.declared.parts.SendState.{SendState}
use Rattle.qs_send.specs.declared.parts.SendState.TheVariants.{Ready, Send, DataSent, DataRecvd, ResetSent, ResetRecvd}

-- The sending lane (RFC 9000, section 3.1). `kept` are the bytes from the lowest offset not acknowledged on, and none after a reset;
-- `sent_end` is the number after the largest offset sent (0 where none was), `blocked_sent` tells that a STREAM_DATA_BLOCKED was sent, and
-- the offsets that may be sent are those below `limit` (RFC 9000, section 4.1). `fin` is the end, and `stopped` the code of the first
-- STOP_SENDING that came (section 3.5). `widest` is the greatest buffer that was set.
pub record SendLane : Type 0 where
  pub id : ℕ
  pub written : ℕ
  pub kept : List ℕ
  pub acked : NumberSet
  pub sent_end : ℕ
  pub finished : Bool
  pub fin_sent : Bool
  pub fin_acked : Bool
  pub blocked_sent : Bool
  pub was_reset : Option Reset
  pub reset_acked : Bool
  pub limit : ℕ
  pub buffer : ℕ
  pub widest : ℕ
  pub stopped : Option ℕ

-- what is to go out, once or again: offsets, and the end (RFC 9000, section 13.3)
pub record Due : Type 0 where
  pub offsets : NumberSet
  pub fin : Bool

-- a half: its lane, and what of the lane is due
pub record Sending : Type 0 where
  pub lane : SendLane
  pub due : Due

-- the lowest offset that isn't acknowledged (RFC 9000, section 13.3)
abbrev pub unacked_from : SendLane → ℕ
unacked_from lane = missing_from lane.acked 0

-- a lane as it begins: nothing was written (RFC 9000, section 3.1)
abbrev pub new_lane : ℕ → ℕ → ℕ → SendLane
new_lane id limit buffer =
    record { id = id; written = 0; kept = []; acked = set.empty; sent_end = 0; finished = false; fin_sent = false; fin_acked = false; blocked_sent = false; was_reset = None; reset_acked = false; limit = limit; buffer = buffer; widest = buffer; stopped = None }

-- a half as it begins: nothing is due
abbrev pub new_sending : ℕ → ℕ → ℕ → Sending
new_sending id limit buffer = record { lane = new_lane id limit buffer; due = record { offsets = set.empty; fin = false } }

-- whether every written offset and the end were acknowledged (RFC 9000, section 3.1)
abbrev pub is_whole : SendLane → Bool
is_whole lane = (unacked_from lane == lane.written) && lane.fin_acked

-- the state (RFC 9000, section 3.1); the first that holds of: the reset acknowledged, a reset made, all acknowledged, the end sent, a
-- STREAM or STREAM_DATA_BLOCKED sent
abbrev pub state : SendLane → SendState
state lane =
    if lane.reset_acked then ResetRecvd
    else (if is_some lane.was_reset then ResetSent
    else (if is_whole lane then DataRecvd
    else (if lane.fin_sent then DataSent
    else (if nat_lt 0 lane.sent_end || lane.blocked_sent then Send else Ready))))

-- the reset's final size, else another (RFC 9000, section 4.5)
abbrev pub size_of : Option Reset → Option ℕ → Option ℕ
size_of None otherwise = otherwise
size_of (Some r) otherwise = Some r.size

-- the final size that was declared: the reset's, else the count written once the end was sent (RFC 9000, section 4.5)
abbrev pub declared_size : SendLane → Option ℕ
declared_size lane = size_of lane.was_reset (if lane.fin_sent then Some lane.written else None)

-- Writing

-- how many bytes the buffer can take: none while more are kept than it is set to (ours: RFC 9000 leaves the buffer open)
abbrev pub free_room : SendLane → ℕ
free_room lane = lane.buffer - length lane.kept

-- how many of n bytes are accepted: the room for them, and no offset past the largest integer (RFC 9000, section 2.2)
abbrev pub accepted : SendLane → ℕ → ℕ
accepted lane n = min n (min (free_room lane) (MAX_VARINT - lane.written))

-- why a write or a finish is refused (RFC 9000, sections 2.4 and 3.1)
abbrev pub refusal : SendLane → Option SendFault
refusal lane = if is_some lane.was_reset then Some WasReset else (if lane.finished then Some Finished else None)

-- a refusal, or nothing, as an answer
abbrev pub answer_of : Option SendFault → Result (Unit {0}) SendFault
answer_of None = Ok tt
answer_of (Some fault) = Err fault

-- the accepted bytes follow those written before (RFC 9000, section 2.2)
abbrev pub write_lane : SendLane → List ℕ → SendLane
write_lane lane bytes = record lane { written = lane.written + length bytes; kept = lane.kept ++ bytes }

-- the accepted offsets are due
abbrev pub after_write : Sending → List ℕ → Sending
after_write s bytes =
    record {
      lane = write_lane s.lane bytes;
      due = record { offsets = set.union s.due.offsets (numbers s.lane.written (s.lane.written + length bytes)); fin = s.due.fin };
    }

-- the end is asked for (RFC 9000, section 2.4)
abbrev pub finish_lane : SendLane → SendLane
finish_lane lane = record lane { finished = true }

-- the end is due, where it isn't refused
abbrev pub after_finish : Sending → Sending
after_finish s =
    if is_some (refusal s.lane) then s else record { lane = finish_lane s.lane; due = record { offsets = s.due.offsets; fin = true } }

-- A reset, of the owner or on the peer's STOP_SENDING (RFC 9000, section 3.5)

-- why a reset is refused: it can be made in Ready, Send and Data Sent (RFC 9000, section 3.1)
abbrev pub reset_refusal : SendLane → Option SendFault
reset_refusal lane = if is_some lane.was_reset then Some WasReset else (if is_whole lane then Some Finished else None)

-- the reset's final size counts the offsets that went out (RFC 9000, section 4.5); no byte is sent any more, so none is kept (section 13.3)
abbrev pub broken_off : SendLane → ℕ → SendLane
broken_off lane code =
    record lane { kept = []; was_reset = Some (record { code = code; size = if lane.fin_sent then lane.written else lane.sent_end }) }

-- it is broken off where that isn't refused (RFC 9000, section 3.1)
abbrev pub reset_lane : SendLane → ℕ → SendLane
reset_lane lane code = if is_some (reset_refusal lane) then lane else broken_off lane code

-- after a reset nothing of the lane is due (RFC 9000, section 3.1)
abbrev pub after_reset : Sending → ℕ → Sending
after_reset s code =
    record {
      lane = reset_lane s.lane code;
      due = if is_some (reset_refusal s.lane) then s.due else record { offsets = set.empty; fin = false };
    }

-- the first code that came counts (ours: RFC 9000 leaves a second STOP_SENDING open)
abbrev pub first_code : Option ℕ → ℕ → Option ℕ
first_code None code = Some code
first_code (Some first) code = Some first

-- a STOP_SENDING came: what can be reset is, with its code, which is kept; else nothing changes (RFC 9000, section 3.5)
abbrev pub stopped_lane : SendLane → ℕ → SendLane
stopped_lane lane code =
    if is_some (reset_refusal lane) then lane else record (broken_off lane code) { stopped = first_code lane.stopped code }

-- what is due then is as after a reset (RFC 9000, section 3.5)
abbrev pub after_stopped : Sending → ℕ → Sending
after_stopped s code = record (after_reset s code) { lane = stopped_lane s.lane code }

-- a STOP_SENDING came that the owner answers: its code is kept where the lane can be reset, and it goes on (ours, beside RFC 9000,
-- section 3.5)
abbrev pub asked_lane : SendLane → ℕ → SendLane
asked_lane lane code = if is_some (reset_refusal lane) then lane else record lane { stopped = first_code lane.stopped code }

-- what is due stays due
abbrev pub after_asked : Sending → ℕ → Sending
after_asked s code = record s { lane = asked_lane s.lane code }

-- a STOP_SENDING came, which the owner answers or not (RFC 9000, section 3.5)
abbrev pub stop_taken : (owner_answers : Bool) → SendLane → ℕ → SendLane
stop_taken owner_answers lane code = if owner_answers then asked_lane lane code else stopped_lane lane code

abbrev pub after_stop : (owner_answers : Bool) → Sending → ℕ → Sending
after_stop owner_answers s code = if owner_answers then after_asked s code else after_stopped s code

-- the RESET_STREAM was acknowledged (RFC 9000, section 3.1)
abbrev pub reset_acked_lane : SendLane → SendLane
reset_acked_lane lane = record lane { reset_acked = true }

abbrev pub after_reset_acked : Sending → Sending
after_reset_acked s = record s { lane = reset_acked_lane s.lane }

-- a STREAM_DATA_BLOCKED was sent (RFC 9000, section 3.1)
abbrev pub blocked_lane : SendLane → SendLane
blocked_lane lane = record lane { blocked_sent = true }

abbrev pub after_blocked : Sending → Sending
after_blocked s = record s { lane = blocked_lane s.lane }

-- the limit never falls (RFC 9000, section 4.1)
abbrev pub allow_lane : SendLane → ℕ → SendLane
allow_lane lane limit = record lane { limit = max lane.limit limit }

abbrev pub after_allow : Sending → ℕ → Sending
after_allow s limit = record s { lane = allow_lane s.lane limit }

-- the buffer is set to another size: what is kept stays (ours)
abbrev pub buffer_lane : SendLane → ℕ → SendLane
buffer_lane lane size = record lane { buffer = size; widest = max lane.widest size }

abbrev pub after_buffer : Sending → ℕ → Sending
after_buffer s size = record s { lane = buffer_lane s.lane size }

-- Chunks

-- the offsets of a chunk (RFC 9000, section 19.8)
abbrev pub chunk_offsets : Chunk → NumberSet
chunk_offsets c = numbers c.offset (c.offset + c.len)

-- a byte sent again doesn't move the sent end (RFC 9000, section 4.1)
abbrev pub sent_lane : SendLane → Chunk → SendLane
sent_lane lane c = record lane { sent_end = max lane.sent_end (c.offset + c.len); fin_sent = lane.fin_sent || c.fin }

-- what was sent isn't due any more
abbrev pub after_sent : Sending → Chunk → Sending
after_sent s c =
    record {
      lane = sent_lane s.lane c;
      due = record { offsets = set.difference s.due.offsets (chunk_offsets c); fin = s.due.fin && not c.fin };
    }

-- the offsets are acknowledged; the bytes below the lowest offset not acknowledged are let go (RFC 9000, section 13.3)
abbrev pub acked_lane : SendLane → Chunk → SendLane
acked_lane lane c =
    record lane {
      acked = set.union lane.acked (chunk_offsets c);
      kept = drop (missing_from (set.union lane.acked (chunk_offsets c)) 0 - unacked_from lane) lane.kept;
      fin_acked = lane.fin_acked || c.fin;
    }

-- what is acknowledged isn't due (RFC 9000, section 13.3)
abbrev pub after_acked : Sending → Chunk → Sending
after_acked s c =
    record {
      lane = acked_lane s.lane c;
      due = record { offsets = set.difference s.due.offsets (chunk_offsets c); fin = s.due.fin && not c.fin };
    }

-- what isn't acknowledged is due again (RFC 9000, section 13.3)
abbrev pub lost_due : SendLane → Due → Chunk → Due
lost_due lane due c =
    record {
      offsets = set.union due.offsets (set.difference (chunk_offsets c) lane.acked);
      fin = due.fin || (c.fin && not lane.fin_acked);
    }

-- after a reset nothing is due again (RFC 9000, section 13.3)
abbrev pub after_lost : Sending → Chunk → Sending
after_lost s c = if is_some s.lane.was_reset then s else record s { due = lost_due s.lane s.due c }

-- the written bytes of a chunk (RFC 9000, section 2.2)
abbrev pub bytes_of : SendLane → Chunk → List ℕ
bytes_of lane c = take c.len (drop (c.offset - unacked_from lane) lane.kept)
