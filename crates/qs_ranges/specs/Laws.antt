-- Of laws.
-- Laws on sets of numbers and their runs.
use Rattle.std.specs.Prelude.{◌≡◌, ℕ, ◌+◌, ◌-◌, ◌<◌, ◌≤◌, ◌↔◌, IsTrue, false, All}
use Rattle.std.specs.FinSet as set
use Rattle.qs_ranges.specs.Numbers.{NumberSet, numbers, IsRunFrom, IsLeastMissingFrom, ContainsRange, AllBelow, covers, end_of, missing_from, run_starts, has_predecessor}
use Rattle.qs_ranges.specs.Runs.{Runs, AreRunsOf}

-- one set has one list of runs
abbrev pub EqualSetsHaveEqualPairs : Type 0
EqualSetsHaveEqualPairs = (s : NumberSet) (xs ys : Runs) → AreRunsOf s xs → AreRunsOf s ys → xs ≡ ys

-- no run can be made longer: it goes on to the next number that is not a member, and the number before it is none
abbrev pub PairsAreLongestRuns : Type 0
PairsAreLongestRuns = (s : NumberSet) (runs : Runs) → AreRunsOf s runs → All (λ run. IsRunFrom s run.0 run × (has_predecessor s run.0 ≡ false)) runs

-- the test and its meaning
abbrev pub CoversIsEachNumber : Type 0
CoversIsEachNumber = (s : NumberSet) (lo hi : ℕ) → IsTrue (covers s lo hi) ↔ ContainsRange s lo hi

-- each member is below the end, and the number before it is one, where the end is not 0
abbrev pub EndIsPastTheLast : Type 0
EndIsPastTheLast = (s : NumberSet) → AllBelow s (end_of s) × (0 < end_of s → IsTrue (set.contains s (end_of s - 1)))

-- the computed number is the least from n on that is not a member
abbrev pub MissingFromIsLeast : Type 0
MissingFromIsLeast = (s : NumberSet) (n : ℕ) → IsLeastMissingFrom s n (missing_from s n)

-- an insert makes at most one run more, and without its lowest run a set has one fewer
abbrev pub RunsRiseAndFallByOne : Type 0
RunsRiseAndFallByOne =
    ((s : NumberSet) (lo hi : ℕ) → lo < hi → set.len (run_starts (set.union s (numbers lo hi))) ≤ set.len (run_starts s) + 1)
    × ((s : NumberSet) (run : ℕ × ℕ) → IsRunFrom s 0 run → set.len (run_starts (set.difference s (numbers 0 run.1))) + 1 ≡ set.len (run_starts s))
