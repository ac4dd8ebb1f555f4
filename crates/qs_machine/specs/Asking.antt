-- Trusted.
-- What an end's owner, and the layer beneath, may ask of an end as it is; nothing changes by it.
use Rattle.std.specs.Prelude.{◌≡◌, ℕ, ◌-◌, ◌≤◌, Bool, true, false, ◌&&◌, ◌||◌, ◌==◌, nat_lt, ◌⊎◌, Option, None, Some, is_some, is_none, option_map, if◌then◌else◌, Result, Ok, Err}
use Rattle.std.specs.FinMap as fmap
use Rattle.qs_wire.specs.declared.stream_id.Dir.{Dir}
use Rattle.qs_recv.specs.Lane.{RecvLane, noted, taken as taken_on}
use Rattle.qs_recv.specs.Peek.{IsPeek}
use Rattle.qs_recv.specs.declared.half.Peek.{Peek}
use Rattle.qs_send.specs.Lane.{SendLane, refusal, free_room, unacked_from}
use Rattle.qs_send.specs.declared.piece.Item.{Item}
use Rattle.qs_calls.specs.declared.closing.Closed.{Closed}
use Rattle.qs_calls.specs.declared.closing.NotedClose.{NotedClose}
use Rattle.qs_calls.specs.declared.closing.Closed.TheVariants.{ByUs, ByPeer, Noted}
use Rattle.qs_calls.specs.declared.uses.UseFault.{UseFault}
use Rattle.qs_machine.specs.Tables.{total}
use Rattle.qs_machine.specs.Ends.{End, Records, send_lane, recv_lane}
use Rattle.qs_machine.specs.Credit.{all_sent, lifetime, unsent_on}
pub use Rattle.qs_machine.specs.Credit.{credit_left, all_unsent, kept_on, all_kept}
use Rattle.qs_machine.specs.Due.{IsDueItem, StreamGoes, known_count}
use Rattle.qs_machine.specs.Owner.{opened_count, own_type, peer_type, accepted_by, recv_refusal, is_read_no_more}

-- Something beside an ACK goes: a control item that is due, or bytes or the end of a stream that no limit holds back. Of an end that
-- closed nothing goes (RFC 9000, sections 4.1, 10.2 and 13.3).
abbrev pub GoesBesideAck : End → Type 0
GoesBesideAck e = (e.closed ≡ None) × (((i : Item) × IsDueItem e i) ⊎ ((n : ℕ) × StreamGoes e n))

-- the code with which the peer closed by a frame that came to this end, None where it didn't (RFC 9000, section 10.2)
abbrev pub peer_closing : Option Closed → Option ℕ
peer_closing None = None
peer_closing (Some (ByUs closing)) = None
peer_closing (Some (ByPeer code)) = Some code
peer_closing (Some (Noted close)) = None

-- the close that the end was told of, None where it closed otherwise or is open (RFC 9000, section 10.2)
abbrev pub noted_closing : Option Closed → Option NotedClose
noted_closing None = None
noted_closing (Some (ByUs closing)) = None
noted_closing (Some (ByPeer code)) = None
noted_closing (Some (Noted close)) = Some close

-- how many runs the offsets make that came, on all streams that a reader wasn't told the end of and that weren't reset (ours)
abbrev pub all_noted : End → ℕ
all_noted e = total noted e.recvs

-- how many bytes of a stream count as taken, None where it has no receiving half here (RFC 9000, sections 3.5 and 4.2)
abbrev pub taken : End → ℕ → Option ℕ
taken e n = option_map taken_on (recv_lane e n)

-- a look at a stream tells what one at its receiving half does, and is refused as a read is (RFC 9000, section 2.2)
abbrev pub IsPeeked : End → ℕ → Result Peek UseFault → Type 0
IsPeeked e n (Err fault) = recv_refusal (is_read_no_more e) e n ≡ Some fault
IsPeeked e n (Ok peek) = (recv_refusal (is_read_no_more e) e n ≡ None) × (l : RecvLane) × (recv_lane e n ≡ Some l) × IsPeek l peek

-- how many streams of a direction the peer may open in all time to come: the lifetime's count without those that it opened (RFC 9000,
-- section 4.6)
abbrev pub streams_left : End → Dir → ℕ
streams_left e d = lifetime e.settings d - opened_count e (peer_type e d)

-- how many this end may open by the count that the peer told last (RFC 9000, section 4.6)
abbrev pub open_left : End → Dir → ℕ
open_left e d = known_count e d - opened_count e (own_type e d)

-- Bytes were written that weren't sent, and nothing but credit holds them back: the stream's limit is reached, or the connection's
-- credit is used up (RFC 9000, section 4.1).
abbrev pub waits_for_credit : Bool → Option SendLane → Bool
waits_for_credit used_up None = false
waits_for_credit used_up (Some l) = is_none l.was_reset && nat_lt l.sent_end l.written && (l.sent_end == l.limit || used_up)

-- the same of a stream at this end; one that closed sends nothing, so nothing waits (RFC 9000, sections 4.1 and 10.2)
abbrev pub is_blocked : End → ℕ → Bool
is_blocked e n = is_none e.closed && waits_for_credit (all_sent e == e.known_data) (send_lane e n)

-- how many bytes a sending half takes, however many are written: none where it refuses them (RFC 9000, sections 2.2 and 2.4)
abbrev pub room_of : End → Option SendLane → ℕ
room_of e None = 0
room_of e (Some l) = if is_some (refusal l) then 0 else accepted_by e l (free_room l)

-- the same of a stream at this end, which accepts none once it closed (RFC 9000, sections 2.2, 2.4 and 10.2)
abbrev pub room : End → ℕ → ℕ
room e n = if is_some e.closed then 0 else room_of e (send_lane e n)

-- how many bytes of a stream were written that are still to be sent for the first time (RFC 9000, sections 2.2 and 3.1)
abbrev pub unsent_of : Option SendLane → ℕ
unsent_of None = 0
unsent_of (Some l) = unsent_on l

-- the same of a stream at this end (RFC 9000, sections 2.2 and 3.1)
abbrev pub unsent : End → ℕ → ℕ
unsent e n = unsent_of (send_lane e n)

-- the lowest offset of a sending half that isn't acknowledged: all below it are (RFC 9000, section 13.3)
abbrev pub acked_below_of : Option SendLane → Option ℕ
acked_below_of None = None
acked_below_of (Some l) = Some (unacked_from l)

-- the same of a stream at this end, None where it has no sending half (RFC 9000, section 13.3)
abbrev pub acked_below : End → ℕ → Option ℕ
acked_below e n = acked_below_of (send_lane e n)

-- the code of the first STOP_SENDING that a sending half took in (RFC 9000, section 3.5)
abbrev pub stop_of : Option SendLane → Option ℕ
stop_of None = None
stop_of (Some l) = l.stopped

-- the same of a stream at this end, None where no STOP_SENDING came (RFC 9000, sections 3.5 and 19.5)
abbrev pub stopped_with : End → ℕ → Option ℕ
stopped_with e n = stop_of (send_lane e n)

-- the least number from one on of an outstanding packet (RFC 9000, section 13.3)
pub record IsLeastFrom (m : Records) (from k : ℕ) : Type 0 where
  pub held : fmap.contains_key m k ≡ true
  pub from_on : from ≤ k
  pub least : (j : ℕ) → from ≤ j → fmap.contains_key m j ≡ true → k ≤ j

-- that number, None where no packet from it on is outstanding (RFC 9000, section 13.3)
abbrev pub IsNextOutstanding : Records → ℕ → Option ℕ → Type 0
IsNextOutstanding m from None = (j : ℕ) → from ≤ j → fmap.contains_key m j ≡ false
IsNextOutstanding m from (Some k) = IsLeastFrom m from k
