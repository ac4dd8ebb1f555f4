-- Of public contracts.
-- What holds of the fields of a receiving half at all times.
use Rattle.std.specs.Prelude.{◌≡◌, ℕ, ◌≤◌, true, false, Option, Some, IfSome}
use Rattle.qs_ranges.specs.Numbers.{MAX_VARINT, end_of}
use Rattle.qs_recv.specs.Lane.{RecvLane}
use Rattle.qs_recv.specs.Lawful.{IsLawful}

-- a code, where there is one, can be told in a frame (RFC 9000, sections 16 and 19.5)
abbrev pub CodeFits : Option ℕ → Type 0
CodeFits code = IfSome code (λ n. n ≤ MAX_VARINT)

-- the lane is lawful, the half's own counts are those of the assembly, and a stop can be told
pub record IsSound (lane : RecvLane) (window read_count received_end : ℕ) : Type 0 where
  pub lawful : IsLawful lane
  pub window_is : lane.arrived.widest ≡ window
  pub count_is : lane.arrived.read_count ≡ read_count
  pub end_is : end_of lane.arrived.received ≡ received_end
  pub stop_fits : CodeFits lane.stop_code

-- no memory is taken where bytes are thrown away, and none once the end was told: then what was read is all of the stream
-- (RFC 9000, sections 3.2 and 3.5)
pub record IsLetGo (lane : RecvLane) (size : ℕ) : Type 0 where
  pub gone : lane.arrived.discarding ≡ true → size ≡ 0
  pub over : lane.reader_done ≡ true → size ≡ 0
  pub ended : lane.reader_done ≡ true → lane.arrived.discarding ≡ false → lane.final_size ≡ Some lane.arrived.read_count
