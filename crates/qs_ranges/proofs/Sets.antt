-- Laws of unions, differences and ranges of sets of numbers, by members.
--     has_union, has_difference, has_empty      what they contain
--     inside, outside, by_side      numbers in a range and beside it
--     with_range-covered      that an insert of members changes nothing
--     AllBelow-.., EndsBefore-..      what bounds them
use Rattle.std.specs.FinSet as set
use Rattle.std.proofs.Common.{◌≡◌, ℕ, ◌<◌, ◌≤◌, true, false, not, ◌&&◌, ◌||◌, sym, ◌∙◌, arith, inl, inr, ◌⊎◌, suc, zero, ◌+◌, ◌-◌, ◌↔◌, Bool, List, [], ◌∷◌, max, refl, ap, IsTrue, if◌then◌else◌, ◌==◌, cond}
use Rattle.std.specs.Ordering.{nat_cmp, eq_by_cmp}
use Rattle.std.specs.Cmp.{nat_cmp_total, unsigned_tied}
use Rattle.std.proofs.lemmas.Bool.{true≢false, or_cases, or_left, or_right, eqb-true, cases_lt}
use Rattle.std.proofs.lemmas.Bool.Decides.{nat_tests}
use Rattle.qs_ranges.specs.Numbers.{NumberSet, numbers, is_within, contains-numbers, contains-with_range, same_numbers, ContainsRange, EndsBefore, AllBelow, IsLeastMissingFrom, covers, end_of, list_end, missing_within, missing_from, empty_from_EndsBefore, contains-without_range, IsRunFrom, has_predecessor, run_starts}
use Rattle.std.specs.List.{list_any}

pub has_union : (s t : NumberSet) (n : ℕ) → set.contains (set.union s t) n ≡ (set.contains s n || set.contains t n)
has_union s t n = set.contains-union nat_cmp_total s t n

pub has_difference : (s t : NumberSet) (n : ℕ) → set.contains (set.difference s t) n ≡ (set.contains s n && not (set.contains t n))
has_difference s t n = set.contains-difference nat_cmp_total s t n

pub has_empty : (n : ℕ) → set.contains {R = nat_cmp} set.empty n ≡ false
has_empty n = set.contains-empty nat_cmp n

-- a number inside a range and one outside it
pub inside : (lo hi n : ℕ) → lo ≤ n → n < hi → is_within lo hi n ≡ true
inside lo hi n ge lt = grind (arith, nat_tests)

pub outside : (lo hi n : ℕ) → (n < lo) ⊎ (hi ≤ n) → is_within lo hi n ≡ false
outside lo hi n h = grind (arith, nat_tests)

-- a fact of the numbers of a range, and one of all others
by_side : (P : ℕ → Type 0) (lo hi : ℕ) → ((n : ℕ) → lo ≤ n → n < hi → P n) → ((n : ℕ) → (n < lo) ⊎ (hi ≤ n) → P n) → (n : ℕ) → P n
by_side P lo hi within beyond n = grind (arith, nat_tests)

-- an insert of members changes nothing
pub with_range-covered : (s : NumberSet) (lo hi : ℕ) → ContainsRange s lo hi → set.union s (numbers lo hi) ≡ s
with_range-covered s lo hi has = same_numbers _ _ (by_side (λ n. set.contains (set.union s (numbers lo hi)) n ≡ set.contains s n) lo hi
    (λ n ge lt. contains-with_range s lo hi n ∙ grind (arith))
    (λ n side. contains-with_range s lo hi n ∙ grind (arith)))

pub EndsBefore-from_AllBelow : (s : NumberSet) (n : ℕ) → AllBelow s n → EndsBefore s n
EndsBefore-from_AllBelow s n below m le = grind (arith, nat_tests)

pub AllBelow-empty : (n : ℕ) → AllBelow set.empty n
AllBelow-empty n m is = absurd (true≢false (sym is ∙ has_empty m))

AllBelow-numbers : (lo hi : ℕ) → AllBelow (numbers lo hi) hi
AllBelow-numbers lo hi m is = let in_range : is_within lo hi m ≡ true = sym (contains-numbers lo hi m) ∙ is in grind (arith, nat_tests)

AllBelow-union : (s t : NumberSet) (n : ℕ) → AllBelow s n → AllBelow t n → AllBelow (set.union s t) n
AllBelow-union s t n of_s of_t m is = elim (or_cases _ _ (sym (has_union s t m) ∙ is)) [ inl in_s ↦ of_s m in_s | inr in_t ↦ of_t m in_t ]

pub AllBelow-with_range : (s : NumberSet) (lo hi n : ℕ) → AllBelow s n → hi ≤ n → AllBelow (set.union s (numbers lo hi)) n
AllBelow-with_range s lo hi n below le = AllBelow-union s (numbers lo hi) n below (λ m is. let l : m < hi = AllBelow-numbers lo hi m is in omega arith)

pub AllBelow-difference : (s t : NumberSet) (n : ℕ) → AllBelow s n → AllBelow (set.difference s t) n
AllBelow-difference s t n below m is = grind (arith, nat_tests, has_difference)

pub AllBelow-more : (s : NumberSet) (n m : ℕ) → AllBelow s n → n ≤ m → AllBelow s m
AllBelow-more s n m below le k is = let l : k < n = below k is in omega arith

-- ---- Laws of sets of numbers.
--     covers-is, covers-of, covers-none      the test `covers` and its meaning
--     below-end_of, end_of-member, ..        one more than the largest member
--     missing_from-is, missing_from-of       the least number that is not a member

-- Covers

pub covers-is : (s : NumberSet) (lo hi : ℕ) → covers s lo hi ≡ true → ContainsRange s lo hi
covers-is s lo hi each = λ n from below. set.is_subset-contains nat_cmp_total (numbers lo hi) s each n (contains-numbers lo hi n ∙ grind (arith, nat_tests))

pub covers-of : (s : NumberSet) (lo hi : ℕ) → ContainsRange s lo hi → covers s lo hi ≡ true
covers-of s lo hi each = set.contains-is_subset nat_cmp_total (numbers lo hi) s (λ n within.
    let in_range : is_within lo hi n ≡ true = sym (contains-numbers lo hi n) ∙ within in
    let from : lo ≤ n = grind (arith, nat_tests) in
    let below : n < hi = grind (arith, nat_tests) in
    each n from below)

pub covers-iff : (s : NumberSet) (lo hi : ℕ) → IsTrue (covers s lo hi) ↔ ContainsRange s lo hi
covers-iff s lo hi = (covers-is s lo hi, covers-of s lo hi)

-- The end

below-list_end : (xs : List ℕ) (q : ℕ) → list_any (eq_by_cmp nat_cmp q) xs ≡ true → q < list_end xs
below-list_end [] q h = absurd (true≢false (sym h))
below-list_end (x ∷ xs) q h =
    elim (or_cases _ _ h) [
      | inl here ↦ let e : q ≡ x = eqb-true q x (sym (unsigned_tied q x) ∙ here) in omega arith
      | inr later ↦ let l = below-list_end xs q later in omega (arith, below-list_end xs q later)
    ]

last_in_list : (xs : List ℕ) → (list_end xs ≡ 0) ⊎ (list_any (eq_by_cmp nat_cmp (list_end xs - 1)) xs ≡ true)
last_in_list [] = inl refl
last_in_list (x ∷ xs) = grind (arith, nat_tests, last_in_list xs, or_left)

-- each member is below the end
pub below-end_of : (s : NumberSet) (n : ℕ) → set.contains s n ≡ true → n < end_of s
unfolding end_of
below-end_of s n h = below-list_end (set.items s) n (sym (set.contains-items s n) ∙ h)

-- the number before the end is a member, where there is one
pub end_of-last : (s : NumberSet) → (end_of s ≡ 0) ⊎ (set.contains s (end_of s - 1) ≡ true)
unfolding end_of
end_of-last s = elim (last_in_list (set.items s)) [ inl none ↦ inl none | inr one ↦ inr (set.contains-items s _ ∙ one) ]

pub end_of-member : (s : NumberSet) → 0 < end_of s → set.contains s (end_of s - 1) ≡ true
end_of-member s some = elim (end_of-last s) [ inl none ↦ absurd (omega arith) | inr one ↦ one ]

-- from the end on no number is a member
pub end_of-ends : (s : NumberSet) → EndsBefore s (end_of s)
end_of-ends s = grind (arith, nat_tests, below-end_of)

pub past-end_of : (s : NumberSet) (n : ℕ) → end_of s ≤ n → set.contains s n ≡ false
past-end_of s n le = end_of-ends s n le

-- the end is at most each bound
pub end_of-le : (s : NumberSet) (n : ℕ) → AllBelow s n → end_of s ≤ n
end_of-le s n below = grind (arith, nat_tests, end_of-last)

pub empty-end_of : (s : NumberSet) → end_of s ≡ 0 → s ≡ set.empty
empty-end_of s none = empty_from_EndsBefore s (λ m le. end_of-ends s m (omega arith))

pub end_of-empty : end_of set.empty ≡ 0
end_of-empty = elim (end_of-last set.empty) [ inl none ↦ none | inr one ↦ absurd (true≢false (sym one ∙ set.contains-empty nat_cmp _)) ]

-- the end of a union is the greater of the two
pub end_of-union : (s t : NumberSet) → end_of (set.union s t) ≡ max (end_of s) (end_of t)
end_of-union s t = omega (arith, upper, lower_s (end_of-last s), lower_t (end_of-last t))
  where
    either : (m : ℕ) → set.contains (set.union s t) m ≡ true → m < max (end_of s) (end_of t)
    either m is = elim (or_cases _ _ (sym (set.contains-union nat_cmp_total s t m) ∙ is)) [
      | inl in_s ↦ let l : m < end_of s = below-end_of s m in_s in omega arith
      | inr in_t ↦ let l : m < end_of t = below-end_of t m in_t in omega arith
    ]

    upper : end_of (set.union s t) ≤ max (end_of s) (end_of t)
    upper = end_of-le (set.union s t) _ either

    lower_s : (end_of s ≡ 0) ⊎ (set.contains s (end_of s - 1) ≡ true) → end_of s ≤ end_of (set.union s t)
    lower_s (inl none) = omega arith
    lower_s (inr one) = omega (arith, below-end_of (set.union s t) (end_of s - 1) (set.contains-union nat_cmp_total s t _ ∙ or_left _ _ one))

    lower_t : (end_of t ≡ 0) ⊎ (set.contains t (end_of t - 1) ≡ true) → end_of t ≤ end_of (set.union s t)
    lower_t (inl none) = omega arith
    lower_t (inr one) = omega (arith, below-end_of (set.union s t) (end_of t - 1) (set.contains-union nat_cmp_total s t _ ∙ or_right _ _ one))

pub end_of-numbers : (lo hi : ℕ) → lo < hi → end_of (numbers lo hi) ≡ hi
end_of-numbers lo hi some =
    omega (arith, end_of-le (numbers lo hi) hi below, below-end_of (numbers lo hi) (hi - 1) (contains-numbers lo hi (hi - 1) ∙ grind (arith, nat_tests)))
  where
    below : AllBelow (numbers lo hi) hi
    below m is = let in_range : is_within lo hi m ≡ true = sym (contains-numbers lo hi m) ∙ is in grind (arith, nat_tests)

pub numbers-none : (lo hi : ℕ) → hi ≤ lo → numbers lo hi ≡ set.empty
numbers-none lo hi le = empty_from_EndsBefore _ (λ m from. contains-numbers lo hi m ∙ grind (arith, nat_tests))

-- the end after an insert
pub end_of-with_range : (s : NumberSet) (lo hi : ℕ) → lo < hi → end_of (set.union s (numbers lo hi)) ≡ max (end_of s) hi
end_of-with_range s lo hi some = end_of-union s (numbers lo hi) ∙ ap (max (end_of s)) (end_of-numbers lo hi some)

pub end_of-with_none : (s : NumberSet) (lo hi : ℕ) → hi ≤ lo → end_of (set.union s (numbers lo hi)) ≡ end_of s
end_of-with_none s lo hi le = grind (arith, nat_tests, numbers-none, end_of-empty, end_of-union)

-- The least number that is not a member

-- where n is a member, what is missing from the next number on is missing from n on
missing_step : (s : NumberSet) (n m : ℕ) → IsLeastMissingFrom s (n + 1) m → (b : Bool) → set.contains s n ≡ b → IsLeastMissingFrom s n (if b then m else n)
missing_step s n m next b is = grind (arith, nat_tests)

missing_within-is : (most : ℕ) (s : NumberSet) (n : ℕ) → end_of s ≤ n + most → IsLeastMissingFrom s n (missing_within most s n)
unfolding missing_within
missing_within-is zero s n le = record { from = omega arith; missing = past-end_of s n (omega arith); all_before = λ k from below. absurd (omega arith) }
missing_within-is (suc most) s n le = missing_step s n _ (missing_within-is most s (n + 1) (omega arith)) (set.contains s n) refl

pub missing_from-is : (s : NumberSet) (n : ℕ) → IsLeastMissingFrom s n (missing_from s n)
missing_from-is s n = missing_within-is (end_of s - n) s n (omega arith)

-- there is one such number
pub least_missing-unique : (s : NumberSet) (n a b : ℕ) → IsLeastMissingFrom s n a → IsLeastMissingFrom s n b → a ≡ b
least_missing-unique s n a b of_a of_b = grind (arith, nat_tests)

pub missing_from-of : (s : NumberSet) (n m : ℕ) → IsLeastMissingFrom s n m → m ≡ missing_from s n
missing_from-of s n m is = least_missing-unique s n m (missing_from s n) is (missing_from-is s n)

-- from the end on each number is missing
pub missing_from-past : (s : NumberSet) (n : ℕ) → end_of s ≤ n → missing_from s n ≡ n
missing_from-past s n le = sym (missing_from-of s n n record { from = omega arith; missing = past-end_of s n le; all_before = λ k from below. absurd (omega arith) })

pub missing_from-le : (s : NumberSet) (n : ℕ) → missing_from s n ≤ max n (end_of s)
missing_from-le s n = grind (arith, nat_tests, missing_from-is, past-end_of)

-- an insert past the least missing number leaves it, as one below it does
pub missing-with_later : (s : NumberSet) (n m lo hi : ℕ) → (m < lo) ⊎ (hi ≤ m) → IsLeastMissingFrom s n m → IsLeastMissingFrom (set.union s (numbers lo hi)) n m
missing-with_later s n m lo hi side is = grind (arith, nat_tests, contains-with_range)

-- the same for the computed number
pub missing_from-with_later : (s : NumberSet) (n lo hi : ℕ) → (missing_from s n < lo) ⊎ (hi ≤ missing_from s n) → missing_from (set.union s (numbers lo hi)) n ≡ missing_from s n
missing_from-with_later s n lo hi side = sym (missing_from-of _ n _ (missing-with_later s n _ lo hi side (missing_from-is s n)))

-- what has more members misses later
pub missing_from-more : (s t : NumberSet) (n : ℕ) → ((k : ℕ) → set.contains s k ≡ true → set.contains t k ≡ true) → missing_from s n ≤ missing_from t n
missing_from-more s t n more = grind (arith, nat_tests, missing_from-is)

-- ---- How many runs a set has after an insert, and after its lowest run was taken out.

pub contains-run_starts : (s : NumberSet) (n : ℕ) → set.contains (run_starts s) n ≡ (set.contains s n && not (has_predecessor s n))
contains-run_starts s n = set.contains-retain s (λ k. not (has_predecessor s k)) n (λ x tie. ap (λ k. not (has_predecessor s k)) (sym (set.nat_cmp-IsAntisymmetric n x tie)))

contains-remove_number : (s : NumberSet) (k q : ℕ) → set.contains (set.remove s k) q ≡ (not (q == k) && set.contains s q)
contains-remove_number s k q = set.contains-remove nat_cmp_total s k q ∙ ap (λ b. not b && set.contains s q) (unsigned_tied q k)

contains-insert_number : (s : NumberSet) (k q : ℕ) → set.contains (set.insert s k) q ≡ ((q == k) || set.contains s q)
contains-insert_number s k q = set.contains-insert nat_cmp_total s k q ∙ ap (λ b. b || set.contains s q) (unsigned_tied q k)

-- a set has no more members than one that has all of them
has_none : (s t : NumberSet) → t ≡ set.empty → ((n : ℕ) → set.contains s n ≡ true → set.contains t n ≡ true) → s ≡ set.empty
has_none s t none more = same_numbers s set.empty (λ n. go n (set.contains s n) refl ∙ sym (set.contains-empty nat_cmp n))
  where
    go : (n : ℕ) (b : Bool) → set.contains s n ≡ b → b ≡ false
    go n false is = refl
    go n true is = sym (more n is) ∙ ap (λ u. set.contains u n) none ∙ set.contains-empty nat_cmp n

removed_more : (a b c : Bool) → (b ≡ true → c ≡ true) → (not a && b) ≡ true → (not a && c) ≡ true
removed_more a b c more has = grind (arith, nat_tests)

one_less : (s : NumberSet) (k : ℕ) → set.len s ≤ set.len (set.remove s k) + 1
one_less s k = go (set.contains s k) (set.len-remove nat_cmp_total s k)
  where
    go : (b : Bool) → set.len (set.remove s k) ≡ cond b (set.len s - 1) (set.len s) → set.len s ≤ set.len (set.remove s k) + 1
    go true is = omega arith
    go false is = omega arith

len_le : (count : ℕ) (s t : NumberSet) → set.len t ≡ count → ((n : ℕ) → set.contains s n ≡ true → set.contains t n ≡ true) → set.len s ≤ set.len t
len_le zero s t is more =
    let none : set.len s ≡ 0 = ap set.len (has_none s t (set.empty_of_len t is) more) ∙ set.len-empty nat_cmp in
    omega arith
len_le (suc count) s t is more = elim (end_of-last t) [
  | inl none ↦ let zero_len : set.len t ≡ 0 = ap set.len (empty-end_of t none) ∙ set.len-empty nat_cmp in absurd (omega arith)
  | inr one ↦
      let k = end_of t - 1 in
      let fewer : set.len (set.remove t k) ≡ set.len t - 1 = set.len-remove nat_cmp_total t k ∙ ap (λ b. cond b (set.len t - 1) (set.len t)) one in
      let rest : set.len (set.remove s k) ≤ set.len (set.remove t k) = len_le count (set.remove s k) (set.remove t k) (omega arith) (λ n has.
      contains-remove_number t k n ∙ removed_more (n == k) (set.contains s n) (set.contains t n) (more n) (sym (contains-remove_number s k n) ∙ has)) in
      omega (arith, one_less s k)
]

pub len_le_of_members : (s t : NumberSet) → ((n : ℕ) → set.contains s n ≡ true → set.contains t n ≡ true) → set.len s ≤ set.len t
len_le_of_members s t more = len_le (set.len t) s t refl more

-- a set has no more members than the numbers below its end, and so no more runs
len_below : (n : ℕ) (s : NumberSet) → AllBelow s n → set.len s ≤ n
len_below zero s below =
    let none : set.len s ≡ 0 = ap set.len (has_none s set.empty refl (λ n has. let lt = below n has in absurd (omega (arith, lt)))) ∙ set.len-empty nat_cmp in
    omega (arith, none)
len_below (suc n) s below =
    let rest : set.len (set.remove s n) ≤ n = len_below n (set.remove s n) (λ m has. less m (below m) (sym (contains-remove_number s n m) ∙ has)) in
    omega (arith, rest, one_less s n)
  where
    less : (m : ℕ) → (set.contains s m ≡ true → m < suc n) → (not (m == n) && set.contains s m) ≡ true → m < n
    less m below has = grind (arith, nat_tests, has)

pub starts_below_end : (s : NumberSet) → set.len (run_starts s) ≤ end_of s
starts_below_end s = grind (arith, nat_tests, contains-run_starts, len_below, below-end_of)

-- an insert of a range adds at most one run
starts_more : (s : NumberSet) (lo hi n : ℕ) → lo < hi → set.contains (run_starts (set.union s (numbers lo hi))) n ≡ true → ((n == lo) || set.contains (run_starts s) n) ≡ true
starts_more s lo hi n some has = grind (arith, nat_tests, contains-run_starts, contains-with_range)

pub len-run_starts-with_range : (s : NumberSet) (lo hi : ℕ) → lo < hi → set.len (run_starts (set.union s (numbers lo hi))) ≤ set.len (run_starts s) + 1
len-run_starts-with_range s lo hi some =
    let le : set.len (run_starts (set.union s (numbers lo hi))) ≤ set.len (set.insert (run_starts s) lo) = len_le_of_members _ _ (λ n has. contains-insert_number (run_starts s) lo n ∙ starts_more s lo hi n some has) in
    go (set.contains (run_starts s) lo) (set.len-insert nat_cmp_total (run_starts s) lo) le
  where
    go : (b : Bool) → set.len (set.insert (run_starts s) lo) ≡ cond b (set.len (run_starts s)) (set.len (run_starts s) + 1) → set.len (run_starts (set.union s (numbers lo hi))) ≤ set.len (set.insert (run_starts s) lo) → set.len (run_starts (set.union s (numbers lo hi))) ≤ set.len (run_starts s) + 1
    go true is le = omega arith
    go false is le = omega arith

-- without its lowest run a set has one run fewer
module _ (s : NumberSet) (run : ℕ × ℕ) (is : IsRunFrom s 0 run) where
  lowest_starts : set.contains (run_starts s) run.0 ≡ true
  lowest_starts = grind (arith, nat_tests, contains-run_starts, not)

  abbrev SameStart : ℕ → Type 0
  SameStart n = (set.contains (set.difference s (numbers 0 run.1)) n && not (has_predecessor (set.difference s (numbers 0 run.1)) n)) ≡ (not (n == run.0) && (set.contains s n && not (has_predecessor s n)))

  start_left : (n : ℕ) → (n < run.0) ⊎ (run.0 ≤ n) → (n < run.1) ⊎ (run.1 ≤ n) → SameStart n
  start_left n h end = grind (arith, nat_tests, cases_lt, contains-without_range, outside)

  starts_left : (n : ℕ) → set.contains (run_starts (set.difference s (numbers 0 run.1))) n ≡ set.contains (set.remove (run_starts s) run.0) n
  starts_left n =
      contains-run_starts (set.difference s (numbers 0 run.1)) n
      ∙ start_left n (cases_lt n run.0) (cases_lt n run.1)
      ∙ ap (λ b. not (n == run.0) && b) (sym (contains-run_starts s n))
      ∙ sym (contains-remove_number (run_starts s) run.0 n)

pub len-run_starts-without_lowest : (s : NumberSet) (run : ℕ × ℕ) → IsRunFrom s 0 run → set.len (run_starts (set.difference s (numbers 0 run.1))) + 1 ≡ set.len (run_starts s)
len-run_starts-without_lowest s run is =
    let same : run_starts (set.difference s (numbers 0 run.1)) ≡ set.remove (run_starts s) run.0 = same_numbers _ _ (starts_left s run is) in
    let fewer : set.len (set.remove (run_starts s) run.0) ≡ set.len (run_starts s) - 1 = set.len-remove nat_cmp_total (run_starts s) run.0 ∙ ap (λ b. cond b (set.len (run_starts s) - 1) (set.len (run_starts s))) (lowest_starts s run is) in
    let some : 0 < set.len (run_starts s) = nonempty in
    ap (λ t. set.len t + 1) same ∙ omega arith
  where
    nonempty : 0 < set.len (run_starts s)
    nonempty = elim (cases_lt 0 (set.len (run_starts s))) [
      | inl some ↦ some
      | inr none ↦
          let empty : run_starts s ≡ set.empty = set.empty_of_len (run_starts s) (omega arith) in
          absurd (true≢false (sym (lowest_starts s run is) ∙ ap (λ t. set.contains t run.0) empty ∙ set.contains-empty nat_cmp run.0))
    ]
