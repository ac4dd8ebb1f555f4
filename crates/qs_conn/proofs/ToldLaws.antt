-- What the acknowledged control items are, as std's maps and the sets of numbers keep them.
use Rattle.std.proofs.Common.{◌≡◌, ◌∙◌, ℕ, ◌+◌, ◌-◌, ◌≤◌, cond, nat_eq, true, List, Option, None, Some, sym, ap, arith}
use Rattle.std.proofs.lemmas.Bool.{true≢false}
use Rattle.std.proofs.lemmas.Option.{none-some}
use Rattle.std.specs.FinSet as set
use Rattle.std.specs.Option.{unwrap_or}
use Rattle.std.specs.Ordering.{nat_cmp}
use Rattle.std.specs.Cmp.{nat_cmp_total, unsigned_tied}
use Rattle.std.specs.BTreeMap as tree
use Rattle.std.specs.BTreeMap.{BTreeMap, is_at}
use Rattle.std.specs.Map.{lookup}
use Rattle.std.specs.FinMap as fmap
use Rattle.std.specs.FinMap.{nat_cmp-IsAntisymmetric, same_map}
use Rattle.std.proofs.lemmas.Bool.Decides.{nat_tests}
use Rattle.qs_ranges.specs.Numbers.{NumberSet, MissesRange}
use Rattle.qs_machine.specs.Acked.{or_zero}

find-lookup : (es : List (ℕ × ℕ)) (q : ℕ) → fmap.find nat_cmp q es ≡ lookup (is_at (nat_cmp q)) es
find-lookup es q = grind (arith, nat_tests)

-- the map of the entries of a std map answers as that does
pub value_at : (m : BTreeMap ℕ ℕ) (q : ℕ) → fmap.get (fmap.from_entries {R = nat_cmp} m.entries) q ≡ tree.get nat_cmp m q
value_at m q = fmap.get-from_entries nat_cmp_total m.entries q ∙ find-lookup m.entries q

-- a number that the std map lacks has no value
pub none_known : (m : BTreeMap ℕ ℕ) (k q : ℕ) → k ≡ q → tree.get nat_cmp m k ≡ None → (v : ℕ) → fmap.get (fmap.from_entries {R = nat_cmp} m.entries) q ≡ Some v → ⊥
none_known m k q same none v is = none-some v (sym (value_at m q ∙ ap (tree.get nat_cmp m) (sym same) ∙ none) ∙ is)

-- no neighbour of a number is in a set that the range about it misses
pub none_beside : (s : NumberSet) (n : ℕ) → MissesRange s (n - 1) (n + 2) → (k : ℕ) → n ≤ k + 1 → k ≤ n + 1 → set.contains s k ≡ true → ⊥
none_beside s n misses k low high is = true≢false (sym is ∙ misses k (omega (arith, low)) (omega (arith, high)))

either_way : (k q : ℕ) → nat_eq k q ≡ nat_eq q k
either_way k q = grind (arith, nat_tests)

-- after an insert it is the map with that entry
pub inserted : (m n : BTreeMap ℕ ℕ) (k w : ℕ) → ((q : ℕ) → tree.get nat_cmp n q ≡ cond (is_at (nat_cmp k) q) (Some w) (tree.get nat_cmp m q))
    → fmap.from_entries {R = nat_cmp} n.entries ≡ fmap.insert (fmap.from_entries m.entries) k w
inserted m n k w updates = same_map nat_cmp_total nat_cmp-IsAntisymmetric _ _ (λ q.
    value_at n q ∙ updates q
    ∙ ap (λ b. cond b (Some w) (tree.get nat_cmp m q)) (unsigned_tied k q ∙ either_way k q ∙ sym (unsigned_tied q k))
    ∙ sym (fmap.get-insert nat_cmp_total (fmap.from_entries m.entries) k w q ∙ ap (cond (is_at (nat_cmp q) k) (Some w)) (value_at m q)))

pub or_zero-unwrap : (o : Option ℕ) → unwrap_or o 0 ≡ or_zero o
or_zero-unwrap o = grind (arith, nat_tests)
