-- Trusted.
-- Which processed packet numbers are kept (RFC 9000, sections 13.2.3 and 13.2.4, for the whole file).
use Rattle.std.specs.Prelude.{ℕ, Bool, ◌||◌, List, [], ◌∷◌, min, nat_lt, if◌then◌else◌}
use Rattle.std.specs.FinSet as set
use Rattle.qs_ranges.specs.Numbers.{NumberSet, numbers, run_starts, missing_from}
use Rattle.qs_machine.specs.Ends.{End}

-- how many ranges of numbers are kept
abbrev pub MAX_RUNS : ℕ
MAX_RUNS = 32

unfoldable pub has_too_many : NumberSet → Bool
has_too_many kept = nat_lt MAX_RUNS (set.len (run_starts kept))

abbrev pub least_of : ℕ → List ℕ → ℕ
least_of k [] = k
least_of k (j ∷ ks) = least_of (min k j) ks

-- the least number of a list, or 0
abbrev pub least_in : List ℕ → ℕ
least_in [] = 0
least_in (k ∷ ks) = least_of k ks

-- one more than the largest number of the lowest run
unfoldable pub lowest_end : NumberSet → ℕ
lowest_end kept = missing_from kept (least_in (set.items kept))

-- The end once all frames of packet k took effect. Where too many runs would be kept, the lowest one leaves, and numbers up to its end
-- are told apart no more.
abbrev pub recorded : ℕ → Bool → End → End
recorded k asks e =
    let kept = set.insert e.done k in
    record e {
      done = if has_too_many kept then set.difference kept (numbers 0 (lowest_end kept)) else kept;
      floor = if has_too_many kept then lowest_end kept else e.floor;
      ack_due = e.ack_due || asks;
    }
