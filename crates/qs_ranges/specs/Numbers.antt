-- Trusted.
-- Sets of numbers, as contracts see them. The whole file is ours: the numbers are offsets of streams and packet numbers (RFC 9000,
-- sections 2.2 and 12.3).
use Rattle.std.specs.Prelude.{◌≡◌, ℕ, suc, zero, ◌+◌, ◌-◌, ◌<◌, ◌≤◌, Bool, false, IsTrue, not, ◌&&◌, ◌||◌, ◌==◌, nat_le, nat_lt, if◌then◌else◌, max, List, [], ◌∷◌}
use Rattle.std.specs.Ordering.{nat_cmp}
use Rattle.std.specs.List.{range_with_len, list_any}
use Rattle.std.specs.FinSet as set
use Rattle.std.specs.Cmp.{nat_cmp_total}
use Rattle.std.proofs.Common.{arith, sym, ◌∙◌, ap}
use Rattle.std.proofs.lemmas.Bool.Decides.{nat_tests}

-- a set of numbers; two are equal where they have the same members
abbrev pub NumberSet : Type 0
NumberSet = set.FinSet nat_cmp

-- the set of the numbers from lo on and below hi
unfoldable pub numbers : ℕ → ℕ → NumberSet
numbers lo hi = set.from_list (range_with_len lo (hi - lo))

-- whether n is one of them
abbrev pub is_within : ℕ → ℕ → ℕ → Bool
is_within lo hi n = nat_le lo n && nat_lt n hi

list_any-range : (lo n q : ℕ) → list_any (λ y. y == q) (range_with_len lo n) ≡ is_within lo (lo + n) q
list_any-range lo zero q = grind (arith, nat_tests)
list_any-range lo (suc n) q = grind (arith, nat_tests, list_any-range (lo + 1) n q)

pub contains-numbers : (lo hi q : ℕ) → set.contains (numbers lo hi) q ≡ is_within lo hi q
unfolding numbers
contains-numbers lo hi q =
    let listed = list_any-range lo (hi - lo) q in
    set.contains-from_list_nat _ q ∙ grind (arith, nat_tests)

-- the members after an insert, and after a removal
pub contains-with_range : (s : NumberSet) (lo hi n : ℕ) → set.contains (set.union s (numbers lo hi)) n ≡ (set.contains s n || is_within lo hi n)
contains-with_range s lo hi n = set.contains-union nat_cmp_total s (numbers lo hi) n ∙ ap (λ b. set.contains s n || b) (contains-numbers lo hi n)

pub contains-without_range : (s : NumberSet) (lo hi n : ℕ) → set.contains (set.difference s (numbers lo hi)) n ≡ (set.contains s n && not (is_within lo hi n))
contains-without_range s lo hi n = set.contains-difference nat_cmp_total s (numbers lo hi) n ∙ ap (λ b. set.contains s n && not b) (contains-numbers lo hi n)

-- two sets with the same members are equal
pub same_numbers : (s t : NumberSet) → ((n : ℕ) → set.contains s n ≡ set.contains t n) → s ≡ t
same_numbers = set.same_set nat_cmp_total set.nat_cmp-IsAntisymmetric

-- what a set has, word by word
pub ruleset sets = (set.members, contains-numbers)

-- each number from lo on and below hi is a member
abbrev pub ContainsRange : NumberSet → ℕ → ℕ → Type 0
ContainsRange s lo hi = (n : ℕ) → lo ≤ n → n < hi → IsTrue (set.contains s n)

-- no number from lo on and below hi is a member
abbrev pub MissesRange : NumberSet → ℕ → ℕ → Type 0
MissesRange s lo hi = (n : ℕ) → lo ≤ n → n < hi → set.contains s n ≡ false

-- no number from n on is a member
abbrev pub EndsBefore : NumberSet → ℕ → Type 0
EndsBefore s n = (m : ℕ) → n ≤ m → set.contains s m ≡ false

pub empty_from_EndsBefore : (s : NumberSet) → EndsBefore s 0 → s ≡ set.empty
empty_from_EndsBefore s none = set.same_set nat_cmp_total set.nat_cmp-IsAntisymmetric _ _ (λ n. none n (omega arith) ∙ sym (set.contains-empty nat_cmp n))

-- whether each number from lo on and below hi is a member
abbrev pub covers : NumberSet → ℕ → ℕ → Bool
covers s lo hi = set.is_subset (numbers lo hi) s

-- each member is below n
abbrev pub AllBelow : NumberSet → ℕ → Type 0
AllBelow s n = (m : ℕ) → IsTrue (set.contains s m) → m < n

-- no number is in both
abbrev pub AreDisjoint : NumberSet → NumberSet → Type 0
AreDisjoint s t = (n : ℕ) → IsTrue (set.contains s n) → set.contains t n ≡ false

-- one more than the largest of the numbers, or 0
abbrev pub list_end : List ℕ → ℕ
list_end [] = 0
list_end (x ∷ xs) = max (x + 1) (list_end xs)

-- one more than the largest member, or 0
unfoldable pub end_of : NumberSet → ℕ
end_of s = list_end (set.items s)

-- the least number from n on that is not a member, or n + most where each before it is one
unfoldable pub missing_within : ℕ → NumberSet → ℕ → ℕ
missing_within zero s n = n
missing_within (suc most) s n = if set.contains s n then missing_within most s (n + 1) else n

-- the least number from n on that is not a member
abbrev pub missing_from : NumberSet → ℕ → ℕ
missing_from s n = missing_within (end_of s - n) s n

-- m is the least member from n on
pub record IsLeastFrom (s : NumberSet) (n m : ℕ) : Type 0 where
  pub from : n ≤ m
  pub member : IsTrue (set.contains s m)
  pub none_before : (k : ℕ) → n ≤ k → k < m → set.contains s k ≡ false

-- m is the least number from n on that is not a member
pub record IsLeastMissingFrom (s : NumberSet) (n m : ℕ) : Type 0 where
  pub from : n ≤ m
  pub missing : set.contains s m ≡ false
  pub all_before : ContainsRange s n m

-- the run goes from the least member at or above n to the next number that is not a member
pub record IsRunFrom (s : NumberSet) (n : ℕ) (run : ℕ × ℕ) : Type 0 where
  pub starts : IsLeastFrom s n run.0
  pub ends : IsLeastMissingFrom s run.0 run.1

-- from n up to the run's end, the members are the numbers of the run
pub record IsRunAbove (s : NumberSet) (n : ℕ) (run : ℕ × ℕ) : Type 0 where
  pub above : n < run.1
  pub nonempty : run.0 < run.1
  pub members : (k : ℕ) → n ≤ k → k ≤ run.1 → set.contains s k ≡ is_within run.0 run.1 k

-- the gap goes from the least missing number at or above lo to the next member, or to hi where none comes before
pub record IsFirstGap (s : NumberSet) (lo hi : ℕ) (gap : ℕ × ℕ) : Type 0 where
  pub starts : IsLeastMissingFrom s lo gap.0
  pub nonempty : gap.0 < gap.1
  pub within : gap.1 ≤ hi
  pub missing : MissesRange s gap.0 gap.1
  pub ends : gap.1 < hi → IsTrue (set.contains s gap.1)

-- whether the number before n is a member
abbrev pub has_predecessor : NumberSet → ℕ → Bool
has_predecessor s zero = false
has_predecessor s (suc n) = set.contains s n

-- the members whose predecessor is not a member
abbrev pub run_starts : NumberSet → NumberSet
run_starts s = set.retain s (λ n. not (has_predecessor s n))

-- the largest number that a variable-length integer spells (RFC 9000, section 16)
abbrev pub MAX_VARINT : ℕ
MAX_VARINT = 4611686018427387903
