-- Of public contracts.
-- Steps on an assembly, one after the other: what each shows, and what they leave.
use Rattle.std.specs.Prelude.{◌≡◌, ℕ, ◌+◌, ◌<◌, ◌≤◌, Bool, true, not, if◌then◌else◌, ◌&&◌, nat_le, nat_lt, List, [], ◌∷◌, length}
use Rattle.std.specs.FinMap as map
use Rattle.qs_ranges.specs.Numbers.{MAX_VARINT}
use Rattle.qs_recv.specs.Assembled.{Assembled, put, take_front, front_of, discard}
use Rattle.qs_chunks.specs.declared.replay.Step.{Step}
use Rattle.qs_chunks.specs.declared.replay.Step.TheVariants.{Put, Take, Discard}
use Rattle.qs_chunks.specs.declared.replay.Shown.{Shown}
use Rattle.qs_chunks.specs.declared.replay.Shown.TheVariants.{Stored, Skipped, Taken, Discarded}
use Rattle.qs_recv.specs.Lane.{MAX_WINDOW}

-- what a step shows: bytes count by their values, wherever they lie in memory
pub data Sight : Type 0 where
  Storing : Sight
  Skipping : Sight
  Taking : List ℕ → Sight
  Discarding : Sight

-- what was shown, by these values
abbrev pub sight : Shown → Sight
sight Stored = Storing
sight Skipped = Skipping
sight (Taken bytes) = Taking bytes.items
sight Discarded = Discarding

-- bytes end at an offset that a frame can tell (RFC 9000, sections 16 and 19.8)
abbrev pub step_fits : Step → Bool
step_fits (Put offset bytes) = nat_le (offset + length bytes.items) MAX_VARINT
step_fits (Take size) = true
step_fits Discard = true

-- n bytes at an offset end past the bytes that were read and the window; where bytes are thrown away there is no window (RFC 9000, section 4.1)
abbrev pub is_past : Assembled → ℕ → ℕ → Bool
is_past a offset n = not a.discarding && nat_lt (a.read_count + a.widest) (offset + n)

-- what a step shows on an assembly that holds a
abbrev pub sight_of : Assembled → Step → Sight
sight_of a (Put offset bytes) = if is_past a offset (length bytes.items) then Skipping else Storing
sight_of a (Take size) = Taking (front_of a size)
sight_of a Discard = Discarding

-- what it holds then: bytes past the window change nothing
abbrev pub after_step : Assembled → Step → Assembled
after_step a (Put offset bytes) = if is_past a offset (length bytes.items) then a else put a offset bytes.items
after_step a (Take size) = take_front a size
after_step a Discard = discard a

-- what the steps show, each where those before it were done
abbrev pub shown_by : Assembled → List Step → List Sight
shown_by a [] = []
shown_by a (step ∷ steps) = sight_of a step ∷ shown_by (after_step a step) steps

-- what it holds after the steps
abbrev pub replayed : Assembled → List Step → Assembled
replayed a [] = a
replayed a (step ∷ steps) = replayed (after_step a step) steps

-- What holds at all times of an assembly that steps are played on: the counts beside it are its own, and small enough to be added; and
-- each stored byte lies at an offset that a frame can tell.
pub record IsPlayed (a : Assembled) (window read_count : ℕ) (discarding : Bool) : Type 0 where
  pub window_is : a.widest ≡ window
  pub count_is : a.read_count ≡ read_count
  pub discarding_is : a.discarding ≡ discarding
  pub small_window : window ≤ MAX_WINDOW
  pub small_count : read_count ≤ MAX_VARINT
  pub in_range : (q : ℕ) → map.contains_key a.stored q ≡ true → q < MAX_VARINT
