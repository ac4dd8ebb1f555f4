-- Of public contracts.
-- What holds of a receiving lane at all times.
use Rattle.std.specs.Prelude.{◌≡◌, ℕ, ◌+◌, ◌≤◌, true, ◌||◌, is_some}
use Rattle.std.specs.FinMap as map
use Rattle.std.specs.FinSet as set
use Rattle.qs_ranges.specs.Numbers.{MAX_VARINT, ContainsRange, end_of}
use Rattle.qs_recv.specs.Lane.{MAX_WINDOW, RecvLane, highest, taken}

-- the peer is within its credit, and the credit within the widest window (RFC 9000, section 4.1); what is stored was received and isn't read
pub record IsLawful (lane : RecvLane) : Type 0 where
  pub some_window : 1 ≤ lane.window
  pub widest : lane.window ≤ lane.arrived.widest
  pub small_window : lane.arrived.widest ≤ MAX_WINDOW
  pub small_limit : lane.limit ≤ MAX_VARINT
  pub granted : highest lane ≤ lane.limit
  pub in_window : lane.limit ≤ taken lane + lane.arrived.widest
  pub stored_received : (q : ℕ) → map.contains_key lane.arrived.stored q ≡ true → (lane.arrived.read_count ≤ q) × (set.contains lane.arrived.received q ≡ true)
  pub read_received : ContainsRange lane.arrived.received 0 lane.arrived.read_count
  pub received_within : end_of lane.arrived.received ≤ highest lane
  pub discards : lane.arrived.discarding ≡ (is_some lane.reset_code || is_some lane.stop_code)
  pub thrown_away : lane.arrived.discarding ≡ true → lane.arrived.stored ≡ map.empty
  pub reset_sized : is_some lane.reset_code ≡ true → is_some lane.final_size ≡ true
