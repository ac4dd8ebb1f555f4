-- Trusted.
-- Whether a frame closes the connection, and with which code. The checks stand in the order in which they are made: the state and the
-- count of the stream, the final size, the stream's credit, the connection's credit, the bytes that are still stored (RFC 9000, sections
-- 2.2, 4, 19 and 20.1).
use Rattle.std.specs.Prelude.{ℕ, ◌+◌, ◌-◌, Bool, length, Option, None, Some, is_none, Result, Ok, Err, nat_lt, nat_le, List, if◌then◌else◌}
use Rattle.qs_recv.specs.Lane.{RecvLane, new_lane, check_stream, check_reset, check_bytes}
use Rattle.qs_recv.specs.declared.credit.Share.{Share}
use Rattle.qs_recv.specs.declared.half.Highest.{Highest}
use Rattle.qs_recv.specs.declared.half.RecvFault.{RecvFault}
use Rattle.qs_recv.specs.declared.half.RecvFault.TheVariants.{FinalSize, StreamCredit, NoMemory, ChangedByte}
use Rattle.qs_send.specs.declared.piece.Item.{Item}
use Rattle.qs_send.specs.declared.piece.Item.TheVariants.{MaxData, MaxStreamData, MaxStreams, ResetStream, StopSending, DataBlocked, StreamDataBlocked, StreamsBlocked}
use Rattle.qs_machine.specs.Tables.{index_of}
use Rattle.qs_machine.specs.Ends.{End, is_own, is_uni, send_lane, recv_lane, first_window}
use Rattle.qs_machine.specs.Credit.{spent, grant}
use Rattle.qs_machine.specs.Seen.{Seen, Ack, Stream, Control, Close, Plain}

-- Codes (RFC 9000, section 20.1)

abbrev pub FLOW_CONTROL_ERROR : ℕ
FLOW_CONTROL_ERROR = 0x03

abbrev pub STREAM_LIMIT_ERROR : ℕ
STREAM_LIMIT_ERROR = 0x04

abbrev pub STREAM_STATE_ERROR : ℕ
STREAM_STATE_ERROR = 0x05

abbrev pub FINAL_SIZE_ERROR : ℕ
FINAL_SIZE_ERROR = 0x06

abbrev pub PROTOCOL_VIOLATION : ℕ
PROTOCOL_VIOLATION = 0x0a

-- Checks (RFC 9000, sections 2.2, 4, 11.1 and 19)

-- the first of two checks that fails
abbrev pub or_else : Option ℕ → Option ℕ → Option ℕ
or_else (Some code) next = Some code
or_else None next = next

abbrev pub fault_if : Bool → ℕ → Option ℕ
fault_if b code = if b then Some code else None

-- of a frame on what the peer sends: an own stream has to be open, another one within the grant (RFC 9000, sections 4.6, 19.4, 19.8)
abbrev pub state_fault_in : End → ℕ → Option ℕ
state_fault_in e n =
    if is_own e n then fault_if (is_none (recv_lane e n)) STREAM_STATE_ERROR
    else fault_if (nat_le (grant e n) (index_of n)) STREAM_LIMIT_ERROR

-- of a frame on what this end sends: on the peer's unidirectional streams it sends nothing (RFC 9000, sections 19.5 and 19.10)
abbrev pub state_fault_out : End → ℕ → Option ℕ
state_fault_out e n =
    if is_own e n then fault_if (is_none (send_lane e n)) STREAM_STATE_ERROR
    else (if is_uni n then Some STREAM_STATE_ERROR else fault_if (nat_le (grant e n) (index_of n)) STREAM_LIMIT_ERROR)

abbrev pub or_new : Option RecvLane → ℕ → Share → RecvLane
or_new None window share = new_lane window share
or_new (Some lane) window share = lane

-- the receiving half of a stream as it is, or as it begins
abbrev pub lane_of : End → ℕ → RecvLane
lane_of e n = or_new (recv_lane e n) (first_window e n) e.tuning.credit_step

abbrev pub fault_code : RecvFault → ℕ
fault_code FinalSize = FINAL_SIZE_ERROR
fault_code StreamCredit = FLOW_CONTROL_ERROR
fault_code NoMemory = 0
fault_code ChangedByte = PROTOCOL_VIOLATION

-- what the half's own check says, and then whether the growth of its highest offset is within the connection limit (RFC 9000,
-- sections 4.1 and 4.5)
abbrev pub credit_fault : End → Result Highest RecvFault → Option ℕ
credit_fault e (Err fault) = Some (fault_code fault)
credit_fault e (Ok h) = fault_if (nat_lt e.granted (spent e + (h.after - h.before))) FLOW_CONTROL_ERROR

-- the code of a check that failed
abbrev pub fault_of : Result (Unit {0}) RecvFault → Option ℕ
fault_of (Err fault) = Some (fault_code fault)
fault_of (Ok passed) = None

-- a byte that isn't the one that is still stored at its offset (RFC 9000, section 2.2)
abbrev pub bytes_fault : End → ℕ → ℕ → List ℕ → Option ℕ
bytes_fault e n offset bytes = fault_of (check_bytes (lane_of e n) offset bytes)

-- an ACK of a number that was never used (RFC 9000, section 13.1)
abbrev pub ack_fault : End → ℕ → Option ℕ
ack_fault e largest = fault_if (nat_le e.next largest) PROTOCOL_VIOLATION

abbrev pub item_verdict : End → Item → Option ℕ
item_verdict e (MaxData m) = None
item_verdict e (MaxStreamData n m) = state_fault_out e n
item_verdict e (MaxStreams d m) = None
item_verdict e (ResetStream n code size) = or_else (state_fault_in e n) (credit_fault e (check_reset (lane_of e n) size))
item_verdict e (StopSending n code) = state_fault_out e n
item_verdict e (DataBlocked m) = None
item_verdict e (StreamDataBlocked n m) = state_fault_in e n
item_verdict e (StreamsBlocked d m) = None

-- the code with which a frame closes the connection, None where the connection goes on
unfoldable pub verdict : End → Seen → Option ℕ
verdict e (Ack largest ranges) = ack_fault e largest
verdict e (Stream n offset bytes fin) =
    or_else (state_fault_in e n) (or_else (credit_fault e (check_stream (lane_of e n) offset (length bytes) fin)) (bytes_fault e n offset bytes))
verdict e (Control item) = item_verdict e item
verdict e (Close code) = None
verdict e (Plain asks) = None
