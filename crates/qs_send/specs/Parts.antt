-- Of laws.
-- The three parts of the written offsets: acknowledged, due and in flight.
use Rattle.std.specs.Prelude.{◌≡◌, ℕ, ◌+◌, Bool, true, false, if◌then◌else◌, is_some, length}
use Rattle.std.specs.FinSet as set
use Rattle.qs_ranges.specs.Numbers.{NumberSet, numbers}
use Rattle.qs_send.specs.Lane.{Sending, chunk_offsets, reset_refusal}
use Rattle.qs_send.specs.Calls.{Call, writes, resets, stops, sends, acks, loses}

-- written, and neither acknowledged nor due (RFC 9000, section 13.3)
abbrev pub in_flight : Sending → NumberSet
in_flight s = set.difference (set.difference (numbers 0 s.lane.written) s.lane.acked) s.due.offsets

abbrev pub bit : Bool → ℕ
bit true = 1
bit false = 0

-- in how many of the three parts an offset is
abbrev pub parts_with : Sending → ℕ → ℕ
parts_with s q = bit (set.contains s.lane.acked q) + bit (set.contains s.due.offsets q) + bit (set.contains (in_flight s) q)

-- the acknowledged offsets after a call: only an acknowledgement adds to them
abbrev pub acked_after : Sending → Call → NumberSet
acked_after s (acks chunk) = set.union s.lane.acked (chunk_offsets chunk)
acked_after s _ = s.lane.acked

-- the due offsets after a call, of a lane that wasn't reset before it
abbrev pub due_after : Sending → Call → NumberSet
due_after s (writes bytes) = set.union s.due.offsets (numbers s.lane.written (s.lane.written + length bytes))
due_after s (resets code) = if is_some (reset_refusal s.lane) then s.due.offsets else set.empty
due_after s (stops code) = if is_some (reset_refusal s.lane) then s.due.offsets else set.empty
due_after s (sends chunk) = set.difference s.due.offsets (chunk_offsets chunk)
due_after s (acks chunk) = set.difference s.due.offsets (chunk_offsets chunk)
due_after s (loses chunk) = set.union s.due.offsets (set.difference (chunk_offsets chunk) s.lane.acked)
due_after s _ = s.due.offsets

-- the offsets in flight after a call, of a lane that wasn't reset before it
abbrev pub in_flight_after : Sending → Call → NumberSet
in_flight_after s (resets code) = if is_some (reset_refusal s.lane) then in_flight s else set.union (in_flight s) s.due.offsets
in_flight_after s (stops code) = if is_some (reset_refusal s.lane) then in_flight s else set.union (in_flight s) s.due.offsets
in_flight_after s (sends chunk) = set.union (in_flight s) (chunk_offsets chunk)
in_flight_after s (acks chunk) = set.difference (in_flight s) (chunk_offsets chunk)
in_flight_after s (loses chunk) = set.difference (in_flight s) (chunk_offsets chunk)
in_flight_after s _ = in_flight s

-- where each part is after a call
pub record MovesParts (s : Sending) (call : Call) (new : Sending) : Type 0 where
  pub acked : new.lane.acked ≡ acked_after s call
  pub due : new.due.offsets ≡ due_after s call
  pub in_flight : in_flight new ≡ in_flight_after s call
