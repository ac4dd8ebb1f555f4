-- Trusted.
-- The receiving lane of a stream (RFC 9000, section 3.2), and what each call on it answers and leaves.
use Rattle.std.specs.Prelude.{ℕ, ◌+◌, ◌/◌, ◌^◌, Bool, true, false, not, if◌then◌else◌, ◌&&◌, ◌||◌, ◌==◌, nat_le, nat_lt, max, min, List, [], length, Option, None, Some, is_some, unwrap_or, Result, Ok, Err}
use Rattle.std.specs.FinSet as set
use Rattle.qs_ranges.specs.Numbers.{NumberSet, MAX_VARINT, covers, end_of, run_starts}
use Rattle.qs_recv.specs.declared.half.Read.{Read}
use Rattle.qs_recv.specs.declared.half.Read.TheVariants.{Bytes, End, Reset, Wait}
use Rattle.qs_recv.specs.declared.half.RecvState.{RecvState}
use Rattle.qs_recv.specs.declared.half.RecvState.TheVariants.{Recv, SizeKnown, DataRecvd, DataRead, ResetRecvd, ResetRead}
use Rattle.qs_recv.specs.declared.half.RecvFault.{RecvFault}
use Rattle.qs_recv.specs.declared.half.RecvFault.TheVariants.{FinalSize, StreamCredit, ChangedByte}
use Rattle.qs_recv.specs.declared.half.Highest.{Highest}
use Rattle.qs_recv.specs.declared.credit.Share.{Share}
use Rattle.qs_recv.specs.declared.credit.Share.TheVariants.{Half, Quarter, Eighth, Sixteenth}
use Rattle.qs_recv.specs.Assembled.{Assembled, nothing_yet, put, take_front, front_of, discard, same, forget, widen}

-- what arrived; the final size, the reset's code and the code of this end's own stop, where known; whether a reader was told of the end or
-- the reset, or wants to be told of neither; the limit on offsets that was granted; the present window, by which it moves, beside the widest one in
-- `arrived`; and by which share of it (RFC 9000, sections 3.2, 3.5, 4.1 and 4.2)
pub record RecvLane : Type 0 where
  pub arrived : Assembled
  pub final_size : Option ℕ
  pub reset_code : Option ℕ
  pub stop_code : Option ℕ
  pub reader_done : Bool
  pub limit : ℕ
  pub window : ℕ
  pub share : Share

-- nothing arrived, and one window is granted (RFC 9000, section 4.1)
abbrev pub new_lane : ℕ → Share → RecvLane
new_lane window share =
    record { arrived = nothing_yet window; final_size = None; reset_code = None; stop_code = None; reader_done = false; limit = window; window = window; share = share }

-- the final size if known, else one more than the largest offset that came, or 0 (RFC 9000, sections 4.1 and 4.5)
abbrev pub highest : RecvLane → ℕ
highest lane = unwrap_or lane.final_size (end_of lane.arrived.received)

-- what the credit is paid back for: the final size once a reset is known, the highest offset once the lane was stopped, else what was read
-- (RFC 9000, sections 3.5 and 4.2)
abbrev pub taken : RecvLane → ℕ
taken lane = if is_some lane.reset_code || is_some lane.stop_code then highest lane else lane.arrived.read_count

-- whether each offset below a known final size came (RFC 9000, section 3.2)
abbrev pub whole_to : NumberSet → Option ℕ → Bool
whole_to received None = false
whole_to received (Some size) = covers received 0 size

-- whether all data came (RFC 9000, section 3.2)
abbrev pub is_whole : RecvLane → Bool
is_whole lane = whole_to lane.arrived.received lane.final_size

-- how many runs the offsets make that came, until a reset comes, or all data did and the reader has nothing to be told: what a lane keeps
-- of them (ours)
abbrev pub noted : RecvLane → ℕ
noted lane = if (lane.reader_done && is_whole lane) || is_some lane.reset_code then 0 else set.len (run_starts lane.arrived.received)

-- the state by the last event that counts (RFC 9000, section 3.2)
abbrev pub state : RecvLane → RecvState
state lane =
    if is_some lane.reset_code then (if lane.reader_done then ResetRead else ResetRecvd)
    else (if is_whole lane then (if lane.reader_done then DataRead else DataRecvd)
    else (if is_some lane.final_size then SizeKnown else Recv))

-- Data

-- whether a frame with n bytes that end at `end` breaks what is known of the final size, where `before` is the highest offset
-- (RFC 9000, section 4.5)
abbrev pub breaks_known : Option ℕ → ℕ → ℕ → Bool → ℕ → Bool
breaks_known None end n fin before = fin && nat_lt end before
breaks_known (Some size) end n fin before = (nat_lt 0 n && nat_lt size end) || (fin && not (end == size))

-- whether a frame with n bytes at `offset` names another final size, one below the highest offset, or lies outside the known one
-- (RFC 9000, section 4.5)
abbrev pub breaks_final_size : RecvLane → ℕ → ℕ → Bool → Bool
breaks_final_size lane offset n fin = breaks_known lane.final_size (offset + n) n fin (highest lane)

-- the highest offset once a frame that broke nothing was taken (RFC 9000, section 4.1)
abbrev pub highest_after : RecvLane → ℕ → ℕ → Bool → ℕ
highest_after lane offset n fin =
    if fin then offset + n else (if is_some lane.final_size || n == 0 then highest lane else max (highest lane) (offset + n))

-- the final size comes first, then the credit, which the highest offset and the frame's end must keep (RFC 9000, sections 4.1 and 4.5)
abbrev pub check_stream : RecvLane → ℕ → ℕ → Bool → Result Highest RecvFault
check_stream lane offset n fin =
    if breaks_final_size lane offset n fin then Err FinalSize
    else (if nat_lt lane.limit (max (highest lane) (offset + n)) then Err StreamCredit
    else Ok (record { before = highest lane; after = highest_after lane offset n fin }))

-- a byte that is still stored doesn't change; after a reset or a stop none is stored (RFC 9000, section 2.2)
abbrev pub check_bytes : RecvLane → ℕ → List ℕ → Result (Unit {0}) RecvFault
check_bytes lane offset bytes = if same lane.arrived.stored offset bytes then Ok tt else Err ChangedByte

-- bytes are put in order, where none is put after a reset; the end tells the final size (RFC 9000, sections 2.2, 3.2 and 4.5)
abbrev pub take_stream : RecvLane → ℕ → List ℕ → Bool → RecvLane
take_stream lane offset bytes fin =
    record lane {
      arrived = if is_some lane.reset_code then lane.arrived else put lane.arrived offset bytes;
      final_size = if fin then Some (offset + length bytes) else lane.final_size;
    }

-- A reset

-- a reset is held against the final size and the credit as a frame that ends the stream there (RFC 9000, sections 4.1 and 4.5)
abbrev pub check_reset : RecvLane → ℕ → Result Highest RecvFault
check_reset lane size =
    if breaks_final_size lane size 0 true then Err FinalSize
    else (if nat_lt lane.limit size then Err StreamCredit
    else Ok (record { before = highest lane; after = size }))

-- in Recv and Size Known what is stored is thrown away, and so is what was noted of the offsets that came; in the other states nothing
-- changes (RFC 9000, section 3.2)
abbrev pub take_reset : RecvLane → ℕ → ℕ → RecvLane
take_reset lane code size =
    if is_some lane.reset_code || is_whole lane then lane
    else record lane { arrived = forget lane.arrived; final_size = Some size; reset_code = Some code }

-- Reading

-- whether so many bytes are all of the stream (RFC 9000, section 4.5)
abbrev pub at_final_size : ℕ → Option ℕ → Bool
at_final_size count None = false
at_final_size count (Some size) = count == size

-- the first case that holds: a reset, a stop, the end, the bytes that are next, or none of these (RFC 9000, sections 2.2, 3.2 and 3.5)
abbrev pub answer_by : Option ℕ → RecvLane → ℕ → Read
answer_by (Some code) lane room = Reset code
answer_by None lane room =
    if is_some lane.stop_code then (if is_whole lane then End else Wait)
    else (if at_final_size lane.arrived.read_count lane.final_size then End
    else (if set.contains lane.arrived.received lane.arrived.read_count then Bytes (length (front_of lane.arrived room)) else Wait))

-- what a reader with so much room is told (RFC 9000, sections 2.2 and 3.2)
abbrev pub read_answer : RecvLane → ℕ → Read
read_answer lane room = answer_by lane.reset_code lane room

-- the bytes of an answer: those that are next, in order (RFC 9000, section 2.2)
abbrev pub bytes_of : Read → RecvLane → ℕ → List ℕ
bytes_of (Bytes n) lane room = front_of lane.arrived room
bytes_of (End) lane room = []
bytes_of (Reset code) lane room = []
bytes_of (Wait) lane room = []

-- the bytes that are handed out with an answer (RFC 9000, section 2.2)
abbrev pub bytes_read : RecvLane → ℕ → List ℕ
bytes_read lane room = bytes_of (read_answer lane room) lane room

-- what was told stays told: Data Read and Reset Read (RFC 9000, section 3.2)
abbrev pub after_answer : Read → RecvLane → ℕ → RecvLane
after_answer (Bytes n) lane room = record lane { arrived = take_front lane.arrived room }
after_answer (End) lane room = record lane { reader_done = true }
after_answer (Reset code) lane room = record lane { reader_done = true }
after_answer (Wait) lane room = lane

-- the lane after a read (RFC 9000, sections 2.2 and 3.2)
abbrev pub after_read : RecvLane → ℕ → RecvLane
after_read lane room = after_answer (read_answer lane room) lane room

-- A stop

-- whether the reader was told of the end or of a reset: Data Read and Reset Read (RFC 9000, section 3.2)
abbrev pub is_over : RecvLane → Bool
is_over lane = lane.reader_done && (is_some lane.reset_code || is_whole lane)

-- what is stored is thrown away, and so is what comes; the first code stays, and what is over isn't stopped (RFC 9000, section 3.5)
abbrev pub stop : RecvLane → ℕ → RecvLane
stop lane code =
    if is_some lane.stop_code || is_over lane then lane
    else record lane { arrived = discard lane.arrived; stop_code = Some code }

-- The same, and nothing more is told of the stream: it is read to its end as soon as that comes, or as a reset does (RFC 9000, sections 3.2
-- and 3.5).
abbrev pub stop_and_discard : RecvLane → ℕ → RecvLane
stop_and_discard lane code = record (stop lane code) { reader_done = true }

-- Credit

-- the widest window of a stream (ours, beside RFC 9000, section 4.1): what is stored of it may stand in one piece of memory
abbrev pub MAX_WINDOW : ℕ
MAX_WINDOW = 2 ^ 30

-- the widest window of a connection (ours, beside RFC 9000, section 4.1): a thousand of the widest of a stream
abbrev pub MAX_CONN_WINDOW : ℕ
MAX_CONN_WINDOW = 2 ^ 40

-- how many such shares a window has (ours, beside RFC 9000, section 4.2)
abbrev pub parts : Share → ℕ
parts Half = 2
parts Quarter = 4
parts Eighth = 8
parts Sixteenth = 16

-- by how much the limit of a window moves at least (ours, beside RFC 9000, section 4.2)
abbrev pub step : Share → ℕ → ℕ
step share w = max 1 (w / parts share)

-- the limit that follows l where t was taken of a window w: it moves by a share of the window at least, or to its greatest value
-- (RFC 9000, section 4.2)
abbrev pub next_limit : ℕ → ℕ → ℕ → Share → ℕ
next_limit l t w share =
    let m = min MAX_VARINT (t + w) in
    if nat_le (l + step share w) m || (m == MAX_VARINT && nat_lt l m) then m else l

-- the limit isn't raised once the final size is known (RFC 9000, sections 4.2 and 4.5)
abbrev pub raised_limit : RecvLane → ℕ
raised_limit lane =
    if is_some lane.final_size then lane.limit else next_limit lane.limit (taken lane) lane.window lane.share

-- the lane with its limit raised (RFC 9000, section 4.2)
abbrev pub raise : RecvLane → RecvLane
raise lane = record lane { limit = raised_limit lane }

-- the new limit, where it rose
abbrev pub raise_answer : RecvLane → Option ℕ
raise_answer lane = if nat_lt lane.limit (raised_limit lane) then Some (raised_limit lane) else None

-- a greater window moves a limit at once, be it by less than a step; under a smaller one the limit stands until it is met
-- (RFC 9000, section 4.2)
abbrev pub limit_with : (old granted taken window : ℕ) → ℕ
limit_with old granted taken window = if nat_lt old window then max granted (min MAX_VARINT (taken + window)) else granted

-- the limit under another window: it stays once the final size is known (RFC 9000, sections 4.2 and 4.5)
abbrev pub limit_under : RecvLane → ℕ → ℕ
limit_under lane window =
    if is_some lane.final_size then lane.limit else limit_with lane.window lane.limit (taken lane) window

-- the lane under another window (RFC 9000, section 4.2)
abbrev pub set_window : RecvLane → ℕ → RecvLane
set_window lane window =
    record lane { arrived = widen lane.arrived window; limit = limit_under lane window; window = window }
