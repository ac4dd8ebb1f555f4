-- Of public contracts.
-- Which frames change a receiving lane, of those that passed their checks (RFC 9000, sections 2.2 and 3.2).
use Rattle.std.specs.Prelude.{ℕ, ◌+◌, Bool, not, ◌&&◌, ◌||◌, is_none}
use Rattle.qs_ranges.specs.Numbers.{covers}
use Rattle.qs_recv.specs.Lane.{RecvLane}

-- whether a frame with n bytes at `offset` changes a lane: it tells the final size, or one of its offsets didn't come before, and no reset
-- did (RFC 9000, sections 2.2 and 4.5)
abbrev pub stream_changes : RecvLane → ℕ → ℕ → Bool → Bool
stream_changes lane offset n fin =
    (fin && is_none lane.final_size) || (is_none lane.reset_code && not (covers lane.arrived.received offset (offset + n)))
