-- Sums that grow.
use Rattle.std.proofs.Common.{◌≡◌, ℕ, zero, suc, ◌+◌, ◌-◌, ◌≤◌, Bool, true, not, List, Option, sum_by, refl, arith}
use Rattle.std.specs.List.{range_with_len}
use Rattle.std.proofs.lemmas.Bool.Decides.{nat_tests}
use Rattle.std.proofs.lemmas.List.Sums.{sum_by-cons}
use Rattle.qs_machine.specs.Tables.{Tables, lookup}
use Rattle.qs_machine.proofs.TablesAfter.{KeptIn}
use Rattle.qs_progress.specs.Comes.{how_many}
use Rattle.qs_progress.specs.Score.{one_if, told_from, marks_of}

pub le_same : (n : ℕ) → n ≤ n
le_same n = omega arith

-- over more numbers, of greater parts
pub sum_grows : (f g : ℕ → ℕ) (lo k m : ℕ) → k ≤ m → ((i : ℕ) → f i ≤ g i) → sum_by f (range_with_len lo k) ≤ sum_by g (range_with_len lo m)
sum_grows f g lo zero m le each = omega arith
sum_grows f g lo (suc k) zero le each = absurd (omega (arith, le))
sum_grows f g lo (suc k) (suc m) le each =
    rw (sum_by-cons f lo (range_with_len (lo + 1) k), sum_by-cons g lo (range_with_len (lo + 1) m)) (omega (arith, each lo, sum_grows f g (lo + 1) k m (omega (arith, le)) each))

pub one_grows : (b c : Bool) → (b ≡ true → c ≡ true) → one_if b ≤ one_if c
one_grows b c more = grind (arith, nat_tests)

-- no more than one value for each number up to the present one
pub told_few : (least p : ℕ) (c : Bool) → told_from least p c ≤ p + 1 - least
told_few least p c = grind (arith, nat_tests)

pub told_grows : (least p q : ℕ) (c d : Bool) → p ≤ q → (p ≡ q → c ≡ true → d ≡ true) → told_from least p c ≤ told_from least q d
told_grows least p q c d le more = grind (arith, nat_tests)

-- what a table's part counts, where it is kept
pub marks_grow : {X : Type 0} (R : X → X → Type 0) (f g : X → ℕ) (t u : Tables X) → KeptIn R t u → ((x y : X) → R x y → f x ≤ g y) → (n : ℕ) → marks_of f (lookup t n) ≤ marks_of g (lookup u n)
marks_grow {X} R f g t u kept grows n = go (lookup t n) refl
  where
    go : (o : Option X) → lookup t n ≡ o → marks_of f o ≤ marks_of g (lookup u n)
    go o is = grind (arith, nat_tests)

-- how many parts of a course are steps, and how many are stretches
abbrev pub steps_in : List Bool → ℕ
steps_in parts = how_many (λ step. step) parts

abbrev pub stretches_in : List Bool → ℕ
stretches_in parts = how_many not parts
