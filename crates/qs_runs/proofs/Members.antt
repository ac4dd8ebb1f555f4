-- What sets and maps have at each number after a change.
use Rattle.std.proofs.Common.{◌≡◌, ℕ, zero, suc, ◌+◌, ◌-◌, ◌<◌, ◌≤◌, Bool, true, false, List, [], ◌∷◌, ◌⊎◌, Option, Some, None, slice_get, refl, sym, ap, ◌∙◌, arith, inl, inr, cond, add-zero, nat_cmp, nat_le, if◌then◌else◌}
use Rattle.std.proofs.lemmas.Option.{none-some, same_Some}
use Rattle.std.proofs.lemmas.Bool.{or_cases, or_left, or_right, and_parts, and_from, eqb-true}
use Rattle.std.proofs.lemmas.Bool.Decides.{nat_tests}
use Rattle.std.specs.FinSet as set
use Rattle.std.specs.FinMap as fmap
use Rattle.std.specs.FinMap.{nat_cmp-IsAntisymmetric}
use Rattle.std.specs.Cmp.{nat_cmp_total, unsigned_tied}
use Rattle.std.specs.Ordering.{eq_by_cmp}
use Rattle.qs_ranges.specs.Numbers.{NumberSet, numbers, is_within, contains-with_range, contains-without_range, end_of}
use Rattle.qs_ranges.proofs.Sets.{below-end_of, end_of-le}
use Rattle.qs_machine.proofs.Carried.{tied_itself}
use Rattle.qs_recv.specs.Assembled.{store, front, front_from, keep_from}

-- Sets of numbers

tied : (q k : ℕ) → eq_by_cmp nat_cmp q k ≡ true → q ≡ k
tied q k e = eqb-true q k (sym (unsigned_tied q k) ∙ e)

pub insert-cases : (s : NumberSet) (k q : ℕ) → set.contains (set.insert s k) q ≡ true → (q ≡ k) ⊎ (set.contains s q ≡ true)
insert-cases s k q h = elim (or_cases _ _ (sym (set.contains-insert nat_cmp_total s k q) ∙ h)) [ inl e ↦ inl (tied q k e) | inr e ↦ inr e ]

pub insert-old : (s : NumberSet) (k q : ℕ) → set.contains s q ≡ true → set.contains (set.insert s k) q ≡ true
insert-old s k q h = set.contains-insert nat_cmp_total s k q ∙ or_right _ _ h

pub insert-new : (s : NumberSet) (k : ℕ) → set.contains (set.insert s k) k ≡ true
insert-new s k = set.contains-insert nat_cmp_total s k k ∙ or_left _ _ (tied_itself k)

bounds-within : (lo hi q : ℕ) → lo ≤ q → q < hi → is_within lo hi q ≡ true
bounds-within lo hi q low high = grind (arith, nat_tests)

-- a member of a set with a run more: an old one, or one of the run
pub run-cases : (s : NumberSet) (lo hi q : ℕ) → set.contains (set.union s (numbers lo hi)) q ≡ true → (set.contains s q ≡ true) ⊎ ((lo ≤ q) × (q < hi))
run-cases s lo hi q h = elim (or_cases _ _ (sym (contains-with_range s lo hi q) ∙ h)) [ inl old ↦ inl old | inr new ↦ inr ((grind (arith, nat_tests), grind (arith, nat_tests))) ]

pub run-old : (s : NumberSet) (lo hi q : ℕ) → set.contains s q ≡ true → set.contains (set.union s (numbers lo hi)) q ≡ true
run-old s lo hi q h = contains-with_range s lo hi q ∙ or_left _ _ h

pub run-new : (s : NumberSet) (lo hi q : ℕ) → lo ≤ q → q < hi → set.contains (set.union s (numbers lo hi)) q ≡ true
run-new s lo hi q low high = contains-with_range s lo hi q ∙ or_right _ _ (bounds-within lo hi q low high)

-- a member of a set without the numbers below one
pub cut-cases : (s : NumberSet) (hi q : ℕ) → set.contains (set.difference s (numbers 0 hi)) q ≡ true → (set.contains s q ≡ true) × (hi ≤ q)
cut-cases s hi q h = (let parts = and_parts _ _ (sym (contains-without_range s 0 hi q) ∙ h) in (parts.0, (grind (arith, parts.1, nat_tests))))

pub cut-kept : (s : NumberSet) (hi q : ℕ) → set.contains s q ≡ true → hi ≤ q → set.contains (set.difference s (numbers 0 hi)) q ≡ true
cut-kept s hi q h le = contains-without_range s 0 hi q ∙ and_from _ _ h (grind (arith, nat_tests))

pub below-end : (s : NumberSet) (q : ℕ) → set.contains s q ≡ true → q < end_of s
below-end = below-end_of

pub end-le : (s : NumberSet) (b : ℕ) → ((q : ℕ) → set.contains s q ≡ true → q < b) → end_of s ≤ b
end-le s b all = end_of-le s b (λ q is. all q is)

-- Maps

pub get-inserted : {X : Type 0} (m : fmap.FinMap nat_cmp X) (k : ℕ) (v : X) (q : ℕ) (b : X) → fmap.get (fmap.insert m k v) q ≡ Some b → (fmap.get m q ≡ Some b) ⊎ ((q ≡ k) × (v ≡ b))
get-inserted m k v q b h = go (eq_by_cmp nat_cmp q k) refl
  where
    go : (t : Bool) → eq_by_cmp nat_cmp q k ≡ t → (fmap.get m q ≡ Some b) ⊎ ((q ≡ k) × (v ≡ b))
    go true e = inr (tied q k e, same_Some v b (sym (fmap.get-insert nat_cmp_total m k v q ∙ ap (λ x. cond x (Some v) (fmap.get m q)) e) ∙ h))
    go false e = inl (sym (fmap.get-insert nat_cmp_total m k v q ∙ ap (λ x. cond x (Some v) (fmap.get m q)) e) ∙ h)

pub get-removed : {X : Type 0} (m : fmap.FinMap nat_cmp X) (k q : ℕ) (b : X) → fmap.get (fmap.remove m k) q ≡ Some b → fmap.get m q ≡ Some b
get-removed m k q b h = go (eq_by_cmp nat_cmp q k) (sym (fmap.get-remove nat_cmp_total m k q) ∙ h)
  where
    go : (t : Bool) → cond t None (fmap.get m q) ≡ Some b → fmap.get m q ≡ Some b
    go true e = absurd (none-some b e)
    go false e = e

-- Stored bytes

abbrev Stored : Type 0
Stored = fmap.FinMap nat_cmp ℕ

-- a stored byte was stored before, or it came now
pub get-stored : (received : NumberSet) (at : ℕ) (bs : List ℕ) (m : Stored) (q b : ℕ) → fmap.get (store received m at bs) q ≡ Some b → (fmap.get m q ≡ Some b) ⊎ ((at ≤ q) × (slice_get bs (q - at) ≡ Some b))
unfolding store
get-stored received at [] m q b h = inl h
get-stored received at (c ∷ bs) m q b h =
    elim (get-stored received (at + 1) bs _ q b h) [
      | inl i ↦ elim (first (set.contains received at) i) [ inl j ↦ inl j | inr j ↦ inr (omega (arith, j.0), (let e : q - at ≡ 0 = omega (arith, j.0) in rw e (ap Some j.1))) ]
      | inr i ↦ inr (omega (arith, i.0), (let e : q - at ≡ suc (q - (at + 1)) = omega (arith, i.0) in rw e i.1))
    ]
  where
    first : (t : Bool) → fmap.get (if t then m else fmap.insert m at c) q ≡ Some b → (fmap.get m q ≡ Some b) ⊎ ((q ≡ at) × (c ≡ b))
    first true e = inl e
    first false e = get-inserted m at c q b e

-- the bytes in a row are the stored ones
pub get-front : (m : Stored) (at n i b : ℕ) → slice_get (front m at n) i ≡ Some b → fmap.get m (at + i) ≡ Some b
unfolding front
get-front m at zero i b h = absurd (none-some b h)
get-front m at (suc n) i b h = go (get-front m (at + 1) n) (fmap.get m at) refl i h
  where
    go : ((j c : ℕ) → slice_get (front m (at + 1) n) j ≡ Some c → fmap.get m (at + 1 + j) ≡ Some c) →
        (o : Option ℕ) → fmap.get m at ≡ o → (j : ℕ) → slice_get (front_from o (front m (at + 1) n)) j ≡ Some b → fmap.get m (at + j) ≡ Some b
    go more None e j h = absurd (none-some b h)
    go more (Some c) e zero h = rw add-zero (e ∙ h)
    go more (Some c) e (suc j) h = (let same : at + 1 + j ≡ at + suc j = omega arith in rw same at (more j b h))

pub get-kept : (m : Stored) (k q b : ℕ) → fmap.get (keep_from m k) q ≡ Some b → fmap.get m q ≡ Some b
unfolding keep_from
get-kept m k q b h = go (nat_le k q) (sym (fmap.get-retain_keys m (λ x. nat_le k x) q (λ x t. ap (nat_le k) (sym (nat_cmp-IsAntisymmetric q x t)))) ∙ h)
  where
    go : (t : Bool) → cond t (fmap.get m q) None ≡ Some b → fmap.get m q ≡ Some b
    go true e = e
    go false e = absurd (none-some b e)
