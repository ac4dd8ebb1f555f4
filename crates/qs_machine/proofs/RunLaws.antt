-- The lowest run of a set of numbers, and a set with one number more.
use Rattle.std.proofs.Common.{◌≡◌, ℕ, ◌+◌, ◌<◌, ◌≤◌, ◌⊎◌, true, false, ◌||◌, List, [], ◌∷◌, refl, sym, ap, ◌∙◌, arith, inl, inr}
use Rattle.std.specs.Prelude.{min}
use Rattle.std.specs.List.{list_any}
use Rattle.std.specs.Ordering.{nat_cmp, eq_by_cmp}
use Rattle.std.specs.Cmp.{nat_cmp_total, unsigned_tied}
use Rattle.std.specs.FinSet as set
use Rattle.std.proofs.lemmas.Bool.{both_ways, cases_lt, or_cases, or_left, or_right, eqb-true}
use Rattle.std.proofs.lemmas.Bool.Decides.{nat_tests}
use Rattle.qs_ranges.specs.Numbers.{NumberSet, numbers, missing_from, IsLeastFrom, IsRunFrom, contains-with_range, same_numbers}
use Rattle.qs_ranges.proofs.Sets.{missing_from-is, missing_from-of}
use Rattle.qs_machine.specs.Recording.{least_of, least_in, lowest_end}
use Rattle.qs_machine.proofs.Carried.{tied_itself}

least_le : (k : ℕ) (ks : List ℕ) → least_of k ks ≤ k
least_le k [] = omega arith
least_le k (j ∷ ks) = omega (arith, least_le (min k j) ks)

least_below : (k q : ℕ) (ks : List ℕ) → list_any (eq_by_cmp nat_cmp q) ks ≡ true → least_of k ks ≤ q
least_below k q [] is = absurd (both_ways false refl is)
least_below k q (j ∷ ks) is =
    elim (or_cases _ _ is) [
      | inl here ↦ (let e : q ≡ j = eqb-true q j (sym (unsigned_tied q j) ∙ here) in omega (arith, least_le (min k j) ks))
      | inr later ↦ least_below (min k j) q ks later
    ]

least_is_one : (k : ℕ) (ks : List ℕ) → (least_of k ks ≡ k) ⊎ (list_any (eq_by_cmp nat_cmp (least_of k ks)) ks ≡ true)
least_is_one k [] = inl refl
least_is_one k (j ∷ ks) =
    elim (least_is_one (min k j) ks) [
      | inl first ↦ elim (cases_lt k j) [
        | inl lt ↦ inl (omega (arith, first))
        | inr ge ↦ (let e : least_of (min k j) ks ≡ j = omega (arith, first) in inr (or_left _ _ (ap (λ x. eq_by_cmp nat_cmp x j) e ∙ tied_itself j)))
      ]
      | inr later ↦ inr (or_right _ _ later)
    ]

least_among : (ks : List ℕ) (m : ℕ) → list_any (eq_by_cmp nat_cmp m) ks ≡ true → ((q : ℕ) → q < m → list_any (eq_by_cmp nat_cmp q) ks ≡ false) → least_in ks ≡ m
least_among [] m is none = absurd (both_ways false refl is)
least_among (k ∷ ks) m is none =
    let low : least_of k ks ≤ m =
    elim (or_cases _ _ is) [
      | inl here ↦ (let e : m ≡ k = eqb-true m k (sym (unsigned_tied m k) ∙ here) in omega (arith, least_le k ks))
      | inr later ↦ least_below k m ks later
    ] in
    let one : list_any (eq_by_cmp nat_cmp (least_of k ks)) (k ∷ ks) ≡ true =
    elim (least_is_one k ks) [
      | inl first ↦ or_left _ _ (ap (λ x. eq_by_cmp nat_cmp x k) first ∙ tied_itself k)
      | inr later ↦ or_right _ _ later
    ] in
    elim (cases_lt (least_of k ks) m) [
      | inl lt ↦ absurd (both_ways _ (none (least_of k ks) lt) one)
      | inr ge ↦ omega (arith, low)
    ]

pub least_member : (s : NumberSet) (m : ℕ) → IsLeastFrom s 0 m → least_in (set.items s) ≡ m
least_member s m h =
    least_among (set.items s) m (sym (set.contains-items s m) ∙ h.member) (λ q lt. sym (set.contains-items s q) ∙ h.none_before q (omega arith) lt)

-- where a number is listed, the least one is, and none below it
least_listed : (n : ℕ) (ks : List ℕ) → list_any (eq_by_cmp nat_cmp n) ks ≡ true → (list_any (eq_by_cmp nat_cmp (least_in ks)) ks ≡ true) × ((q : ℕ) → q < least_in ks → list_any (eq_by_cmp nat_cmp q) ks ≡ false)
least_listed n ks has = grind (arith, nat_tests, both_ways, least_is_one, or_left, tied_itself, or_right, or_cases, eqb-true, least_le, least_below)

-- a set with a member has a lowest run
pub lowest_run : (s : NumberSet) (n : ℕ) → set.contains s n ≡ true → IsRunFrom s 0 (least_in (set.items s), missing_from s (least_in (set.items s)))
lowest_run s n has =
    let listed = least_listed n (set.items s) (sym (set.contains-items s n) ∙ has) in
    record {
      starts = record { from = omega arith; member = set.contains-items s _ ∙ listed.0; none_before = λ q ge lt. set.contains-items s q ∙ listed.1 q lt };
      ends = missing_from-is s (least_in (set.items s));
    }

-- the lowest run ends where a search for runs says
pub lowest_end_is : (s : NumberSet) (run : ℕ × ℕ) → IsRunFrom s 0 run → lowest_end s ≡ run.1
unfolding lowest_end
lowest_end_is s run h = ap (missing_from s) (least_member s run.0 h.starts) ∙ sym (missing_from-of s run.0 run.1 h.ends)

-- a range of one number is that number
pub insert_is_range : (s : NumberSet) (k : ℕ) → set.union s (numbers k (k + 1)) ≡ set.insert s k
insert_is_range s k =
    same_numbers _ _ (λ q.
    contains-with_range s k (k + 1) q ∙ (grind (arith, nat_tests)) ∙ ap (λ b. b || set.contains s q) (sym (unsigned_tied q k)) ∙ sym (set.contains-insert nat_cmp_total s k q))

-- where each number of a list lies at a floor or above, so does the least one
pub least_above : (floor : ℕ) (ks : List ℕ) → ((q : ℕ) → list_any (eq_by_cmp nat_cmp q) ks ≡ true → floor ≤ q) → (x : ℕ) → list_any (eq_by_cmp nat_cmp x) ks ≡ true → floor ≤ least_in ks
least_above floor [] all x h = absurd (both_ways false refl h)
least_above floor (k ∷ ks) all x h =
    all (least_of k ks) (elim (least_is_one k ks) [
      | inl first ↦ or_left _ _ (ap (λ y. eq_by_cmp nat_cmp y k) first ∙ tied_itself k)
      | inr later ↦ or_right _ _ later
    ])
