-- What tables keep for each open stream, and changes that change nothing.
use Rattle.std.proofs.Common.{◌≡◌, ℕ, zero, suc, ◌+◌, ◌-◌, ◌*◌, ◌/◌, ◌%◌, ◌<◌, true, false, option_map, List, [], ◌∷◌, ◌++◌, length, map, Option, Some, None, is_some, slice_get, slice_set, refl, sym, ap, ◌∙◌, subst, arith, inl, inr}
use Rattle.std.specs.List.{range_with_len}
use Rattle.std.proofs.lemmas.Option.{none-some, same_Some}
use Rattle.std.proofs.lemmas.Bool.{both_ways, cases_eq}
use Rattle.qs_machine.specs.Tables.{Tables, table, with_table, lookup, update, updated, open_to, each, widened}
use Rattle.qs_machine.proofs.TableLaws.{lookup_same, lookup_other, lookup_open, lookup_each}

-- each stream that is open stays so, and its part keeps what R says
abbrev pub KeptIn : {X : Type 0} → (X → X → Type 0) → Tables X → Tables X → Type 0
KeptIn {X} R old new = (n : ℕ) (x : X) → lookup old n ≡ Some x → (y : X) × (lookup new n ≡ Some y) × R x y

module _ {X : Type 0} (R : X → X → Type 0) (same : (x : X) → R x x) where
  pub kept_same : (t : Tables X) → KeptIn R t t
  kept_same t n x is = (x, is, same x)

  pub kept_twice : ((x y z : X) → R x y → R y z → R x z) → (t u v : Tables X) → KeptIn R t u → KeptIn R u v → KeptIn R t v
  kept_twice twice t u v a b n x is = grind arith

  pub kept_updated : (t : Tables X) (n : ℕ) (f : X → X) → ((x : X) → lookup t n ≡ Some x → R x (f x)) → KeptIn R t (updated t n f (lookup t n))
  kept_updated t n f kept = go (lookup t n) refl
    where
      go : (o : Option X) → lookup t n ≡ o → KeptIn R t (updated t n f o)
      go None is m y there = (y, there, same y)
      go (Some x) is m y there =
          elim (cases_eq m n) [
            | inl e ↦ (let at : x ≡ y = same_Some x y (sym is ∙ ap (lookup t) (sym e) ∙ there) in (f x, ap (lookup (update t n (f x))) e ∙ lookup_same t n x (f x) is, subst (λ z. R z (f x)) at (kept x is)))
            | inr ne ↦ (y, lookup_other t n m (f x) ne ∙ there, same y)
          ]

  pub kept_open : (t : Tables X) (n : ℕ) (begin : ℕ → X) → KeptIn R t (open_to t n begin)
  kept_open t n begin m x is =
      elim (lookup_open t n m begin) [
        | inl as_was ↦ (x, as_was ∙ is, same x)
        | inr new ↦ absurd (none-some x (sym new.0 ∙ is))
      ]

  pub kept_each : (t : Tables X) (f : X → X) → ((x : X) → R x (f x)) → KeptIn R t (each f t)
  kept_each t f kept m x is = (f x, lookup_each f t m ∙ ap (option_map f) is, kept x)

pub still_open : {X : Type 0} (R : X → X → Type 0) (t u : Tables X) (n : ℕ) → KeptIn R t u → is_some (lookup t n) ≡ true → is_some (lookup u n) ≡ true
still_open {X} R t u n kept is = go (lookup t n) refl is
  where
    go : (o : Option X) → lookup t n ≡ o → is_some o ≡ true → is_some (lookup u n) ≡ true
    go o at none = grind arith

-- Changes that change nothing

module _ {X : Type 0} where
  table_back : (t : Tables X) (k : ℕ) → with_table t k (table t k) ≡ t
  table_back t k = grind arith

  pub set_back : (xs : List X) (i : ℕ) (x : X) → slice_get xs i ≡ Some x → slice_set xs i x ≡ xs
  set_back [] i x is = refl
  set_back (y ∷ xs) zero x is = ap (λ z. z ∷ xs) (sym (same_Some y x is))
  set_back (y ∷ xs) (suc i) x is = ap (λ zs. y ∷ zs) (set_back xs i x is)

  pub update_back : (t : Tables X) (n : ℕ) (x : X) → lookup t n ≡ Some x → update t n x ≡ t
  unfolding update lookup
  update_back t n x is = ap (with_table t (n % 4)) (set_back (table t (n % 4)) (n / 4) x is) ∙ table_back t (n % 4)

  pub updated_back : (t : Tables X) (n : ℕ) (f : X → X) (x : X) → lookup t n ≡ Some x → f x ≡ x → updated t n f (lookup t n) ≡ t
  updated_back t n f x is stays = ap (updated t n f) is ∙ ap (update t n) stays ∙ update_back t n x is

  at_index : (xs : List X) (i : ℕ) → is_some (slice_get xs i) ≡ true → i < length xs
  at_index [] i is = absurd (both_ways false refl is)
  at_index (x ∷ xs) zero is = omega arith
  at_index (x ∷ xs) (suc i) is = let lt = at_index xs i is in omega (arith, lt)

  append_none : (xs : List X) → xs ++ [] ≡ xs
  append_none [] = refl
  append_none (x ∷ xs) = ap (λ ys. x ∷ ys) (append_none xs)

  widened_back : (xs : List X) (i : ℕ) (begin : ℕ → X) → is_some (slice_get xs i) ≡ true → widened xs (i + 1) begin ≡ xs
  widened_back xs i begin is =
      let lt = at_index xs i is in
      let none : i + 1 - length xs ≡ 0 = omega (arith, lt) in
      ap (λ k. xs ++ map begin (range_with_len (length xs) k)) none ∙ append_none xs

  -- a stream that is open is not opened again
  pub open_back : (t : Tables X) (n : ℕ) (begin : ℕ → X) → is_some (lookup t n) ≡ true → open_to t n begin ≡ t
  unfolding open_to lookup
  open_back t n begin is = ap (with_table t (n % 4)) (widened_back (table t (n % 4)) (n / 4) (λ i. begin (i * 4 + n % 4)) is) ∙ table_back t (n % 4)
