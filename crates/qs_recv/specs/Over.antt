-- Of private contracts.
-- A receiving lane that was read to its end (RFC 9000, section 3.2).
use Rattle.std.specs.Prelude.{◌≡◌, ℕ, ◌+◌, true, None, Some}
use Rattle.std.specs.FinMap as map
use Rattle.qs_ranges.specs.Numbers.{numbers}
use Rattle.qs_recv.specs.Lane.{RecvLane}
use Rattle.qs_recv.specs.Rest.{lane_at_rest}
use Rattle.qs_recv.specs.declared.window.Windows.{Windows}

-- the lane that was read to its end, at its final size (RFC 9000, sections 3.2 and 4.5)
abbrev pub over_lane : ℕ → ℕ → Windows → RecvLane
over_lane end past windows = lane_at_rest windows end end (end + past) (Some end) None None true

-- it was read to its end: nothing that may still come or be called changes it (RFC 9000, sections 3.2, 3.5 and 4.5)
pub record IsOver (lane : RecvLane) : Type 0 where
  pub reader_done : lane.reader_done ≡ true
  pub no_reset : lane.reset_code ≡ None
  pub no_stop : lane.stop_code ≡ None
  pub size : lane.final_size ≡ Some lane.arrived.read_count
  pub came : lane.arrived.received ≡ numbers 0 lane.arrived.read_count
  pub empty : lane.arrived.stored ≡ map.empty
