-- Of public contracts.
-- How much memory an end takes for the bytes of its streams (ours, for the whole file: RFC 9000, section 4, bounds the bytes alone).
use Rattle.std.specs.Prelude.{ℕ, ◌+◌, ◌-◌, ◌*◌, ◌^◌, ◌≤◌, Bool, not, ◌&&◌, ◌||◌, if◌then◌else◌, ◌==◌, min, max, length, is_some}
use Rattle.qs_recv.specs.Lane.{RecvLane, highest, taken}
use Rattle.qs_recv.specs.Room.{least_room}
use Rattle.qs_send.specs.Lane.{SendLane, is_whole}
use Rattle.qs_conn.specs.declared.held.Held.{Held}
use Rattle.qs_machine.specs.Tables.{total}
use Rattle.qs_machine.specs.Ends.{End}
use Rattle.qs_machine.specs.Asking.{all_kept}
use Rattle.qs_machine.specs.Credit.{spent, all_taken, all_stored}
use Rattle.qs_machine.specs.Sums.{stored_on}

-- whether bytes that come are kept still: the reader wasn't told the end or a reset, and there was neither a reset nor a stop
abbrev pub keeps : RecvLane → Bool
keeps lane = not lane.reader_done && not lane.arrived.discarding

-- the most that the ring of a receiving half takes: nothing once bytes aren't kept; else 4,096 bytes, or while some are stored four times
-- what was spent beyond what was taken
abbrev pub most_held : RecvLane → ℕ
most_held lane =
    if not (keeps lane) then 0
    else (if stored_on lane == 0 then 4096 else max 4096 (4 * (highest lane - taken lane)))

-- the least that it takes: while some are stored, as many bytes as these span, of a page or less
abbrev pub least_held : RecvLane → ℕ
least_held lane = if stored_on lane == 0 then 0 else least_room lane.arrived

-- the most that the buffer of a sending half takes: nothing after a reset, and once all that was written and the end were acknowledged;
-- else 4,096 bytes, or while some are kept the most that it was set to
abbrev pub most_buffered : SendLane → ℕ
most_buffered lane =
    if is_some lane.was_reset || is_whole lane then 0
    else (if length lane.kept == 0 then 4096 else lane.widest)

-- how many receiving halves keep bytes that come
abbrev pub half_count : End → ℕ
half_count e = total (λ l. if keeps l then 1 else 0) e.recvs

-- All rings together take at least what is stored, and what each takes at least, where that has a number of 64 bits; and at most what each may take: four times what was spent beyond what was taken, which
-- is within the widest window of the connection, and 4,096 bytes for each half that keeps bytes still. All buffers together take what is kept at least,
-- where that has a number of 64 bits, and at most what each may take.
pub record IsHeldBy (e : End) (held : Held) : Type 0 where
  pub stored : all_stored e ≤ held.receiving
  pub least : min (total least_held e.recvs) (2 ^ 64 - 1) ≤ held.receiving
  pub rings : held.receiving ≤ total most_held e.recvs
  pub spent : held.receiving ≤ 4 * (spent e - all_taken e) + 4096 * half_count e
  pub window : held.receiving ≤ 4 * e.present.widest + 4096 * half_count e
  pub kept : min (all_kept e) (2 ^ 64 - 1) ≤ held.sending
  pub buffers : held.sending ≤ total most_buffered e.sends
