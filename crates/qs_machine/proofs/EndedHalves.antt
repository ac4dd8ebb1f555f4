-- A half of a stream that ended stays so.
use Rattle.std.proofs.Common.{◌≡◌, ℕ, ◌+◌, ◌≤◌, Bool, true, false, ◌&&◌, ◌||◌, [], cond, Some, is_some, refl, arith}
use Rattle.std.specs.Prelude.{is_none}
use Rattle.std.specs.FinSet as set
use Rattle.std.proofs.lemmas.Bool.{both_ways, and_parts, or_left}
use Rattle.std.proofs.lemmas.Bool.Decides.{nat_tests}
use Rattle.qs_ranges.proofs.Sets.{covers-is, covers-of, missing_from-with_later}
use Rattle.qs_recv.specs.Lane.{RecvLane, is_whole as recv_whole, take_reset, after_read, after_answer, read_answer, stop, stop_and_discard, state as recv_state}
use Rattle.qs_recv.specs.declared.half.Read.{Read}
use Rattle.qs_send.specs.Lane.{SendLane, is_whole as send_whole, reset_refusal, reset_acked_lane, acked_lane, Sending, state as send_state}
use Rattle.qs_send.specs.declared.parts.Chunk.{Chunk}
use Rattle.qs_machine.specs.Credit.{recv_ended, send_ended}
use Rattle.qs_machine.specs.Laws.{is_last_recv, is_last_send, EndedIsLastState}
use Rattle.qs_send.specs.Sound.{IsLawful}

-- where the first half ended, the second one did too
abbrev pub RecvStays : RecvLane → RecvLane → Type 0
RecvStays l m = recv_ended l ≡ true → recv_ended m ≡ true

abbrev pub SendStays : SendLane → SendLane → Type 0
SendStays l m = send_ended l ≡ true → send_ended m ≡ true

-- Receiving halves

-- all data came, and nothing of it is taken back
pub whole_stays : (l m : RecvLane) → ((q : ℕ) → set.contains l.arrived.received q ≡ true → set.contains m.arrived.received q ≡ true) → ((s : ℕ) → l.final_size ≡ Some s → m.final_size ≡ Some s) → recv_whole l ≡ true → recv_whole m ≡ true
whole_stays l m received size whole = grind (arith, nat_tests, both_ways, covers-of, covers-is)

-- a half that was told of its end, by a reset or by all data
pub recv_stays : (l m : RecvLane) → m.reader_done ≡ l.reader_done → (is_some l.reset_code ≡ true → is_some m.reset_code ≡ true) → (recv_whole l ≡ true → recv_whole m ≡ true) → RecvStays l m
recv_stays l m told reset whole h = grind arith

pub reset_stays_ended : (l : RecvLane) (code size : ℕ) → RecvStays l (take_reset l code size)
reset_stays_ended l code size = grind arith

answer_stays : (answer : Read) (l : RecvLane) (size : ℕ) → RecvStays l (after_answer answer l size)
answer_stays answer l size h = grind arith

pub read_stays : (size : ℕ) (l : RecvLane) → RecvStays l (after_read l size)
read_stays size l = answer_stays (read_answer l size) l size

pub stop_stays : (code : ℕ) (l : RecvLane) → RecvStays l (stop l code)
stop_stays code l = grind arith

-- a half that is forgotten isn't told of its end anew
pub forget_stays : (code : ℕ) (l : RecvLane) → RecvStays l (stop_and_discard l code)
forget_stays code l h = (and_parts (stop l code).reader_done (is_some (stop l code).reset_code || recv_whole (stop l code)) (stop_stays code l h)).1

-- Sending halves

-- a half ended by a reset, or by all data
abbrev by_data : SendLane → Bool
by_data l = is_none l.was_reset && l.finished && send_whole l

pub send_stays : (l m : SendLane) → (l.reset_acked ≡ true → m.reset_acked ≡ true) → (by_data l ≡ true → by_data m ≡ true) → SendStays l m
send_stays l m reset whole h = grind arith

pub record HasData (l : SendLane) : Type 0 where
  pub no_reset : is_none l.was_reset ≡ true
  pub finished : l.finished ≡ true
  pub whole : send_whole l ≡ true

data_parts : (a b c : Bool) → (a && b && c) ≡ true → (a ≡ true) × (b ≡ true) × (c ≡ true)
data_parts a b c h = grind arith

data_of : (l : SendLane) → by_data l ≡ true → HasData l
data_of l h = let (a, b, c) = data_parts (is_none l.was_reset) l.finished (send_whole l) h in record { no_reset = a; finished = b; whole = c }

data_from : (a b c : Bool) → a ≡ true → b ≡ true → c ≡ true → (a && b && c) ≡ true
data_from a b c p q r = grind arith

-- a half of which all was acknowledged isn't reset, and one that was finished isn't written to

-- the half as a reset leaves it
abbrev pub reset_by : ℕ → SendLane → SendLane
reset_by code l = record l { kept = []; was_reset = Some (record { code = code; size = cond l.fin_sent l.written l.sent_end }) }

pub reset_acked_keeps : (l : SendLane) → SendStays l (reset_acked_lane l)
reset_acked_keeps l h = refl

pub whole_acked : (l : SendLane) (c : Chunk) → c.offset + c.len ≤ l.written → send_whole l ≡ true → send_whole (acked_lane l c) ≡ true
whole_acked l c within whole = grind (arith, nat_tests, and_parts, missing_from-with_later, or_left)

pub acked_keeps : (l : SendLane) (c : Chunk) → c.offset + c.len ≤ l.written → SendStays l (acked_lane l c)
acked_keeps l c within = grind (arith, nat_tests, send_stays, data_of, data_from, whole_acked)

-- The last states

recv_last : (l : RecvLane) → recv_ended l ≡ is_last_recv (recv_state l)
recv_last l = grind arith

send_last : (s : Sending) → IsLawful s → send_ended s.lane ≡ is_last_send (send_state s.lane)
send_last s h = grind arith

pub ended_is_last : EndedIsLastState
ended_is_last = record { recv = recv_last; send = send_last }
