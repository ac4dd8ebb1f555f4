-- Of private contracts.
-- Runs in blocks: lists of neighbouring runs, one after another.
use Rattle.std.specs.Prelude.{◌≡◌, ℕ, ◌+◌, ◌-◌, ◌<◌, ◌≤◌, Bool, not, ◌&&◌, ◌||◌, nat_lt, if◌then◌else◌, List, [], ◌∷◌, ◌++◌, length, take, All, Option, None, Some, slice_index_or}
use Rattle.qs_ranges.specs.Numbers.{is_within}
use Rattle.qs_ranges.specs.Runs.{Runs, AreApart, has_number, end_at}
use Rattle.qs_ranges.specs.declared.few.Few.{Few}
use Rattle.qs_ranges.specs.declared.few.Few.TheVariants as few

abbrev pub Blocks : Type 0
Blocks = List Runs

-- the runs of all blocks
abbrev pub all_runs : Blocks → Runs
all_runs [] = []
all_runs (b ∷ bs) = b ++ all_runs bs

-- the runs of a value
abbrev pub few_runs : Few → Runs
few_runs (few.InBlocks n) = []
few_runs (few.One run) = run ∷ []
few_runs (few.Two low high) = low ∷ high ∷ []

-- the count that a value tells
abbrev pub few_count : Few → ℕ
few_count (few.InBlocks n) = n
few_count (few.One run) = 1
few_count (few.Two low high) = 2

-- the runs of a set: those of the blocks, and where there is no block those of the value
abbrev pub runs_of : Blocks → Few → Runs
runs_of [] value = few_runs value
runs_of (b ∷ bs) value = all_runs (b ∷ bs)

-- the value of a set tells how many runs there are
abbrev pub IsCounted : Blocks → Few → Type 0
IsCounted bs value = few_count value ≡ length (runs_of bs value)

-- a set has blocks only for two runs or more
abbrev pub AreMany : Blocks → Type 0
AreMany bs = 0 < length bs → 1 < length (all_runs bs)

-- the runs of the block with a number
abbrev pub block_at : Blocks → ℕ → Runs
block_at bs k = slice_index_or bs k []

-- the place among all runs of the run at a place of a block
abbrev pub place : Blocks → ℕ → ℕ → ℕ
place bs b i = length (all_runs (take b bs)) + i

-- the first run that ends above n
abbrev pub first_run_above : ℕ → Runs → Option (ℕ × ℕ)
first_run_above n [] = None
first_run_above n (run ∷ rest) = if nat_lt n run.1 then Some run else first_run_above n rest

-- the run at a place is the first that ends at low or later
pub record IsFirstFrom (runs : Runs) (low at : ℕ) : Type 0 where
  pub in_bounds : at ≤ length runs
  pub before : 0 < at → end_at runs (at - 1) < low
  pub behind : at < length runs → low ≤ end_at runs at

-- runs from one place of a block on and before another of a later block, or of the same, of which there is one at least
pub record IsFound (bs : Blocks) (block from last to : ℕ) : Type 0 where
  pub blocks : block ≤ last
  pub in_bounds : last < length bs
  pub from_in : from < length (block_at bs block)
  pub some : 0 < to
  pub to_in : to ≤ length (block_at bs last)
  pub ordered : block ≡ last → from < to

-- the new runs are apart, end by the limit, and have the wanted numbers
pub record IsEdit (new : Runs) (limit : ℕ) (wanted : ℕ → Bool) : Type 0 where
  pub apart : AreApart new
  pub within : All (λ run. run.1 ≤ limit) new
  pub members : (q : ℕ) → has_number new q ≡ wanted q

-- what the runs have, and all of the range
abbrev pub with_range : Runs → ℕ → ℕ → ℕ → Bool
with_range runs lo hi q = has_number runs q || is_within lo hi q

-- what the runs have outside the range
abbrev pub without_range : Runs → ℕ → ℕ → ℕ → Bool
without_range runs lo hi q = has_number runs q && not (is_within lo hi q)
