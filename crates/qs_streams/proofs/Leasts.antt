-- The least number with a property: of streams of a type by their indexes, and of all types.
use Rattle.std.proofs.Common.{◌≡◌, ℕ, ◌+◌, ◌-◌, ◌*◌, ◌/◌, ◌<◌, ◌≤◌, ◌⊎◌, true, List, min, Option, None, Some, length, get_or, sym, ap, ◌∙◌, refl, inl, inr, arith}
use Rattle.std.proofs.lemmas.Bool.{both_ways}
use Rattle.std.proofs.lemmas.Bool.Decides.{nat_tests}
use Rattle.std.proofs.lemmas.Option.{none-some, same_Some}
use Rattle.qs_ranges.specs.Bits.{IsBefore}
use Rattle.qs_machine.specs.Tables.{type_of}
use Rattle.qs_machine.specs.Sums.{tables_of}
use Rattle.qs_machine.specs.News.{IsLeast}
use Rattle.qs_machine.proofs.TableEdits.{table_is}
use Rattle.qs_streams.specs.Rows.{has, IsNext}
use Rattle.qs_streams.specs.Flags.{IsFlaggedOf, flag, least_of}

-- none below the answer has the property
least_by : (P : ℕ → Type 0) (from : ℕ) (answer : Option ℕ) → ((n : ℕ) → answer ≡ Some n → (from ≤ n) × P n) → ((n : ℕ) → from ≤ n → IsBefore n answer → P n → ⊥) → IsLeast P from answer
least_by P from answer found none = grind (arith, nat_tests)

none_before : (P : ℕ → Type 0) (from : ℕ) (answer : Option ℕ) → IsLeast P from answer → (n : ℕ) → from ≤ n → IsBefore n answer → P n → ⊥
none_before P from answer h n le before p = grind (arith, nat_tests)

before_least : (a b : Option ℕ) (n : ℕ) → IsBefore n (least_of a b) → IsBefore n a × IsBefore n b
before_least None b n is = (tt, is)
before_least (Some a) None n is = (is, tt)
before_least (Some a) (Some b) n is = (omega (arith, is), omega (arith, is))

-- the lesser of two answers, where each number with the property is in one of two parts
least_two : (P Q R : ℕ → Type 0) (from : ℕ) (a b : Option ℕ) → ((n : ℕ) → P n → R n) → ((n : ℕ) → Q n → R n) → ((n : ℕ) → R n → P n ⊎ Q n) → IsLeast P from a → IsLeast Q from b → IsLeast R from (least_of a b)
least_two P Q R from a b left right parts p q = least_by R from (least_of a b) (found a b p q) (λ n le before r. elim (parts n r) [ inl x ↦ none_before P from a p n le (before_least a b n before).0 x | inr y ↦ none_before Q from b q n le (before_least a b n before).1 y ])
  where
    found : (x y : Option ℕ) → IsLeast P from x → IsLeast Q from y → (n : ℕ) → least_of x y ≡ Some n → (from ≤ n) × R n
    found None y s t n is = (let f = t.found n is in (f.0, right n f.1))
    found (Some x) None s t n is = (let f = s.found n is in (f.0, left n f.1))
    found (Some x) (Some y) s t n is = grind (arith, left x, right y, same_Some (min x y) n is)

-- those of one type
abbrev pub OfKind : (ℕ → Type 0) → ℕ → ℕ → Type 0
OfKind P k n = (type_of n ≡ k) × P n

pub kinds_four : (P : ℕ → Type 0) (from : ℕ) (a b c d : Option ℕ) → IsLeast (OfKind P 0) from a → IsLeast (OfKind P 1) from b → IsLeast (OfKind P 2) from c → IsLeast (OfKind P 3) from d → IsLeast P from (least_of (least_of a b) (least_of c d))
kinds_four P from a b c d p q r s =
    let Bidi : ℕ → Type 0 = λ n. OfKind P 0 n ⊎ OfKind P 1 n in
    let Uni : ℕ → Type 0 = λ n. OfKind P 2 n ⊎ OfKind P 3 n in
    least_two Bidi Uni P from (least_of a b) (least_of c d) (λ n h. elim h [ inl x ↦ x.1 | inr y ↦ y.1 ]) (λ n h. elim h [ inl x ↦ x.1 | inr y ↦ y.1 ]) by_kind
    (least_two (OfKind P 0) (OfKind P 1) Bidi from a b (λ n x. inl x) (λ n y. inr y) (λ n h. h) p q) (least_two (OfKind P 2) (OfKind P 3) Uni from c d (λ n x. inl x) (λ n y. inr y) (λ n h. h) r s)
  where
    by_kind : (n : ℕ) → P n → (OfKind P 0 n ⊎ OfKind P 1 n) ⊎ (OfKind P 2 n ⊎ OfKind P 3 n)
    by_kind n held = grind (arith)

-- of streams of a type, by their indexes
module _ (rows : List (List ℕ)) (row k from first : ℕ) (small : k < 4) (begin : first ≡ (from + 3 - k) / 4) where
  of_type : (n : ℕ) → type_of n ≡ k → from ≤ n → first ≤ n / 4
  of_type n kind ge = omega (arith, small, begin, kind, ge)

  pub next_none : IsNext (has rows row) first None → IsLeast (IsFlaggedOf rows row k) from None
  next_none next = record { found = λ n is. absurd (none-some n is); least = λ n ge p. absurd (both_ways (has rows row (n / 4)) (next.unmarked (n / 4) (of_type n p.0 ge) tt) p.1) }

  pub next_some : (i : ℕ) → IsNext (has rows row) first (Some i) → IsLeast (IsFlaggedOf rows row k) from (Some (i * 4 + k))
  next_some i next =
      least_by (IsFlaggedOf rows row k) from (Some (i * 4 + k))
      (λ n is.
      let at : i * 4 + k ≡ n = same_Some (i * 4 + k) n is in
      let index : n / 4 ≡ i = omega (arith, small, at) in
      let f = next.found i refl in
      (omega (arith, small, begin, at, f.0), (omega (arith, small, at), rw index f.1)))
      (λ n ge before p. both_ways (has rows row (n / 4)) (next.unmarked (n / 4) (of_type n p.0 ge) (omega (arith, before, p.0, small))) p.1)

-- of an end's rows
pub flagged_four : (ls : List (List (List ℕ))) (row from : ℕ) (d0 d1 d2 d3 : List (List ℕ)) (a b c d : Option ℕ) → length ls ≡ 4 → IsLeast (IsFlaggedOf (get_or ls 0 d0) row 0) from a → IsLeast (IsFlaggedOf (get_or ls 1 d1) row 1) from b → IsLeast (IsFlaggedOf (get_or ls 2 d2) row 2) from c → IsLeast (IsFlaggedOf (get_or ls 3 d3) row 3) from d
    → IsLeast (λ n. flag (tables_of ls) row n ≡ true) from (least_of (least_of a b) (least_of c d))
unfolding flag
flagged_four ls row from d0 d1 d2 d3 a b c d len p q r s = kinds_four (λ n. flag (tables_of ls) row n ≡ true) from a b c d (as_flag 0 d0 a (omega arith) p) (as_flag 1 d1 b (omega arith) q) (as_flag 2 d2 c (omega arith) r) (as_flag 3 d3 d (omega arith) s)
  where
    read : (k : ℕ) (z : List (List ℕ)) (n : ℕ) → type_of n ≡ k → flag (tables_of ls) row n ≡ has (get_or ls k z) row (n / 4)
    read k z n kind = ap (λ xs. has xs row (n / 4)) (table_is ls n k z len (sym kind))

    as_flag : (k : ℕ) (z : List (List ℕ)) (o : Option ℕ) → k < 4 → IsLeast (IsFlaggedOf (get_or ls k z) row k) from o → IsLeast (OfKind (λ n. flag (tables_of ls) row n ≡ true) k) from o
    as_flag k z o small h = record {
      found = λ n is. (let f = h.found n is in (f.0, (f.1.0, read k z n f.1.0 ∙ f.1.1)));
      least = λ n ge p. h.least n ge (p.0, sym (read k z n p.0) ∙ p.1);
    }
