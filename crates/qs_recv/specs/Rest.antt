-- Of private contracts.
-- A receiving lane that stores nothing, and of which the offsets that came are those below a number: its numbers tell all of it.
use Rattle.std.specs.Prelude.{◌≡◌, ℕ, Bool, true, false, ◌||◌, if◌then◌else◌, List, Option, Some, None, is_some}
use Rattle.qs_ranges.specs.Numbers.{numbers}
use Rattle.qs_recv.specs.Assembled.{at_rest, put}
use Rattle.qs_recv.specs.Lane.{RecvLane}
use Rattle.qs_recv.specs.declared.window.Windows.{Windows}
use Rattle.qs_recv.specs.Lawful.{IsLawful}
use Rattle.qs_recv.specs.Sound.{CodeFits}

-- a number, where there is one
abbrev pub given : Bool → ℕ → Option ℕ
given is_there n = if is_there then Some n else None

-- the lane of these numbers: bytes are thrown away after a reset or a stop (RFC 9000, sections 3.2 and 3.5)
abbrev pub lane_at_rest : Windows → ℕ → ℕ → ℕ → Option ℕ → Option ℕ → Option ℕ → Bool → RecvLane
lane_at_rest windows read_count end limit final_size reset_code stop_code reader_done =
    record {
      arrived = at_rest windows.widest read_count end (is_some reset_code || is_some stop_code);
      final_size = final_size;
      reset_code = reset_code;
      stop_code = stop_code;
      reader_done = reader_done;
      limit = limit;
      window = windows.size;
      share = windows.share;
    }

-- it is lawful, a stop can be told, and until bytes are thrown away all that came was read: all of the stream once the end was told, and
-- nothing before
pub record IsAtRest (lane : RecvLane) (read_count end : ℕ) : Type 0 where
  pub lawful : IsLawful lane
  pub stop_fits : CodeFits lane.stop_code
  pub all_read : lane.arrived.discarding ≡ false → read_count ≡ end
  pub ended : lane.reader_done ≡ true → lane.arrived.discarding ≡ false → lane.final_size ≡ Some read_count
  pub nothing : lane.reader_done ≡ false → lane.arrived.discarding ≡ false → end ≡ 0

-- once a frame's bytes were put in order, or passed over after a reset, the offsets that came are those below `end`, and nothing is stored
pub record EndsAt (lane : RecvLane) (offset : ℕ) (bytes : List ℕ) (end : ℕ) : Type 0 where
  pub arrived : (if is_some lane.reset_code then lane.arrived else put lane.arrived offset bytes) ≡ record lane.arrived { received = numbers 0 end }
  pub all_read : lane.arrived.discarding ≡ false → lane.arrived.read_count ≡ end
