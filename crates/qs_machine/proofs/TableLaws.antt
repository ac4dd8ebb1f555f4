-- What a table has for each stream after a change, and the sums over it.
use Rattle.std.proofs.lemmas.Bool.Decides.{nat_tests}
use Rattle.std.proofs.Common.{◌≡◌, ◌≢◌, ℕ, zero, suc, ◌+◌, ◌-◌, ◌*◌, ◌/◌, ◌%◌, ◌<◌, ◌≤◌, List, [], ◌∷◌, ◌++◌, ◌⊎◌, length, map, Option, Some, None, is_some, true, option_map, slice_get, slice_set, sum_by, refl, sym, ap, ◌∙◌, subst, arith, inl, inr}
use Rattle.std.specs.List.{range_with_len}
use Rattle.std.proofs.lemmas.Option.{none-some, same_Some, slice_get-map}
use Rattle.std.proofs.lemmas.List.Sums.{sum_by-append, sum_by-cons}
use Rattle.std.proofs.lemmas.Bool.{cases_eq}
use Rattle.qs_machine.specs.Tables.{Tables, table, with_table, lookup, update, open_to, each, total, widened}

module _ {X : Type 0} where
  get_set_same : (xs : List X) (i : ℕ) (x y : X) → slice_get xs i ≡ Some x → slice_get (slice_set xs i y) i ≡ Some y
  get_set_same [] i x y e = absurd (none-some x e)
  get_set_same (z ∷ xs) zero x y e = refl
  get_set_same (z ∷ xs) (suc i) x y e = get_set_same xs i x y e

  get_set_other : (xs : List X) (i j : ℕ) (y : X) → j ≢ i → slice_get (slice_set xs i y) j ≡ slice_get xs j
  get_set_other (z ∷ xs) zero zero y ne = absurd (ne refl)
  get_set_other (z ∷ xs) (suc i) (suc j) y ne = get_set_other xs i j y (λ e. ne (ap suc e))
  get_set_other _ i j y ne = refl

  pub table_same : (t : Tables X) (k : ℕ) (xs : List X) → table (with_table t k xs) k ≡ xs
  table_same t k xs = grind arith

  pub table_other : (t : Tables X) (k j : ℕ) (xs : List X) → k < 4 → j < 4 → j ≢ k → table (with_table t k xs) j ≡ table t j
  table_other t k j xs a b ne = grind arith

  pub lookup_same : (t : Tables X) (n : ℕ) (x y : X) → lookup t n ≡ Some x → lookup (update t n y) n ≡ Some y
  unfolding lookup update
  lookup_same t n x y e = ap (λ xs. slice_get xs (n / 4)) (table_same t (n % 4) _) ∙ get_set_same (table t (n % 4)) (n / 4) x y e

  -- a change of one type's list leaves the others
  pub with_other : (t : Tables X) (n m : ℕ) (xs : List X) → m % 4 ≢ n % 4 → lookup (with_table t (n % 4) xs) m ≡ lookup t m
  unfolding lookup
  with_other t n m xs ne = ap (λ ys. slice_get ys (m / 4)) (table_other t (n % 4) (m % 4) xs (omega arith) (omega arith) ne)

  pub with_same : (t : Tables X) (n m : ℕ) (xs : List X) → m % 4 ≡ n % 4 → lookup (with_table t (n % 4) xs) m ≡ slice_get xs (m / 4)
  unfolding lookup
  with_same t n m xs e = rw e (ap (λ ys. slice_get ys (m / 4)) (table_same t (n % 4) xs))

  pub lookup_in : (t : Tables X) (n m : ℕ) → m % 4 ≡ n % 4 → lookup t m ≡ slice_get (table t (n % 4)) (m / 4)
  unfolding lookup
  lookup_in t n m e = rw e refl

  pub lookup_other : (t : Tables X) (n m : ℕ) (y : X) → m ≢ n → lookup (update t n y) m ≡ lookup t m
  unfolding update
  lookup_other t n m y ne =
      elim (cases_eq (m % 4) (n % 4)) [
        | inl e ↦ with_same t n m _ e ∙ get_set_other (table t (n % 4)) (n / 4) (m / 4) y (λ i. ne (omega arith)) ∙ sym (lookup_in t n m e)
        | inr d ↦ with_other t n m _ d
      ]

  -- a property of each stream's part, after one part changed
  pub slots_updated : (P : ℕ → Option X → Type 0) (t : Tables X) (n : ℕ) (x y : X) → lookup t n ≡ Some x → ((m : ℕ) → m ≢ n → P m (lookup t m)) → P n (Some y) → (m : ℕ) → P m (lookup (update t n y) m)
  slots_updated P t n x y is others this m =
      elim (cases_eq m n) [
        | inl e ↦ rw e (subst (P n) (sym (lookup_same t n x y is)) this)
        | inr ne ↦ subst (P m) (sym (lookup_other t n m y ne)) (others m ne)
      ]

  -- of parts that begin by their index, the one at a place, if there is one
  get_begun : (begin : ℕ → X) (lo k i : ℕ) → (slice_get (map begin (range_with_len lo k)) i ≡ None) ⊎ ((i < k) × (slice_get (map begin (range_with_len lo k)) i ≡ Some (begin (lo + i))))
  get_begun begin lo zero i = inl refl
  get_begun begin lo (suc k) zero = let e : lo ≡ lo + 0 = omega arith in inr (omega arith, ap (λ j. Some (begin j)) e)
  get_begun begin lo (suc k) (suc i) =
      let e : lo + 1 + i ≡ lo + suc i = omega arith in
      elim (get_begun begin (lo + 1) k i) [ inl none ↦ inl none | inr h ↦ inr (omega (arith, h.0), h.1 ∙ ap (λ j. Some (begin j)) e) ]

  get_widened_by : (xs : List X) (begin : ℕ → X) (lo k i : ℕ) →
      (slice_get (xs ++ map begin (range_with_len (lo + length xs) k)) i ≡ slice_get xs i)
      ⊎ ((slice_get xs i ≡ None) × (length xs ≤ i) × (i < length xs + k) × (slice_get (xs ++ map begin (range_with_len (lo + length xs) k)) i ≡ Some (begin (lo + i))))
  get_widened_by [] begin lo k i =
      let e : lo + 0 ≡ lo = omega arith in
      rw e (elim (get_begun begin lo k i) [ inl none ↦ inl none | inr h ↦ inr (refl, omega arith, omega (arith, h.0), h.1) ])
  get_widened_by (y ∷ xs) begin lo k zero = inl refl
  get_widened_by (y ∷ xs) begin lo k (suc i) =
      let e : lo + length (y ∷ xs) ≡ lo + 1 + length xs = omega arith in
      let f : lo + suc i ≡ lo + 1 + i = omega arith in
      rw (e, f) (elim (get_widened_by xs begin (lo + 1) k i) [ inl same ↦ inl same | inr h ↦ inr (h.0, omega (arith, h.1), omega (arith, h.2), h.3) ])

  get_widened : (xs : List X) (n i : ℕ) (begin : ℕ → X) → (slice_get (widened xs n begin) i ≡ slice_get xs i) ⊎ ((slice_get xs i ≡ None) × (i < n) × (slice_get (widened xs n begin) i ≡ Some (begin i)))
  get_widened xs n i begin =
      let e : 0 + length xs ≡ length xs = omega arith in
      let f : 0 + i ≡ i = omega arith in
      let h = rw (e, f) at (get_widened_by xs begin 0 (n - length xs) i) in
      elim h [ inl same ↦ inl same | inr g ↦ inr (g.0, omega (arith, g.1, g.2), g.3) ]

  -- a stream after others were opened: as before, or newly open
  pub lookup_open : (t : Tables X) (n m : ℕ) (begin : ℕ → X) → (lookup (open_to t n begin) m ≡ lookup t m) ⊎ ((lookup t m ≡ None) × (m % 4 ≡ n % 4) × (m ≤ n) × (lookup (open_to t n begin) m ≡ Some (begin m)))
  unfolding open_to
  lookup_open t n m begin =
      elim (cases_eq (m % 4) (n % 4)) [
        | inl e ↦ elim (get_widened (table t (n % 4)) (n / 4 + 1) (m / 4) (λ i. begin (i * 4 + n % 4))) [
          | inl same ↦ inl (with_same t n m _ e ∙ same ∙ sym (lookup_in t n m e))
          | inr new ↦ (let whole : m / 4 * 4 + n % 4 ≡ m = omega arith in inr (lookup_in t n m e ∙ new.0, e, omega (arith, new.1), with_same t n m _ e ∙ new.2 ∙ ap (λ j. Some (begin j)) whole))
        ]
        | inr d ↦ inl (with_other t n m _ d)
      ]

  begun_some : (begin : ℕ → X) (lo k i : ℕ) → i < k → is_some (slice_get (map begin (range_with_len lo k)) i) ≡ true
  begun_some begin lo zero i lt = absurd (omega arith)
  begun_some begin lo (suc k) zero lt = refl
  begun_some begin lo (suc k) (suc i) lt = begun_some begin (lo + 1) k i (omega arith)

  widened_some : (xs : List X) (begin : ℕ → X) (lo k i : ℕ) → i < length xs + k → is_some (slice_get (xs ++ map begin (range_with_len lo k)) i) ≡ true
  widened_some [] begin lo k i lt = begun_some begin lo k i (omega arith)
  widened_some (y ∷ xs) begin lo k zero lt = refl
  widened_some (y ∷ xs) begin lo k (suc i) lt = widened_some xs begin lo k i (omega arith)

  -- a stream is open once it was opened
  pub open_at : (t : Tables X) (n : ℕ) (begin : ℕ → X) → is_some (lookup (open_to t n begin) n) ≡ true
  unfolding open_to
  open_at t n begin =
      ap is_some (with_same t n n _ refl)
      ∙ widened_some (table t (n % 4)) (λ i. begin (i * 4 + n % 4)) (length (table t (n % 4))) (n / 4 + 1 - length (table t (n % 4))) (n / 4) (omega arith)

  pub slots_opened : (P : ℕ → Option X → Type 0) (t : Tables X) (n : ℕ) (begin : ℕ → X) → ((m : ℕ) → P m (lookup t m)) → ((m : ℕ) → P m None → m % 4 ≡ n % 4 → P m (Some (begin m))) → (m : ℕ) → P m (lookup (open_to t n begin) m)
  slots_opened P t n begin all fresh m =
      elim (lookup_open t n m begin) [
        | inl same ↦ subst (P m) (sym same) (all m)
        | inr (none, kind, le, new) ↦ subst (P m) (sym new) (fresh m (subst (P m) none (all m)) kind)
      ]

  get_lower : (xs : List X) (i j : ℕ) → j ≤ i → is_some (slice_get xs i) ≡ true → is_some (slice_get xs j) ≡ true
  get_lower [] i j le h = h
  get_lower (x ∷ xs) i zero le h = refl
  get_lower (x ∷ xs) zero (suc j) le h = absurd (omega arith)
  get_lower (x ∷ xs) (suc i) (suc j) le h = get_lower xs i j (omega arith) h

  -- where a stream is open, all lower ones of its type are
  pub open_lower : (t : Tables X) (n m : ℕ) → m % 4 ≡ n % 4 → n ≤ m → is_some (lookup t m) ≡ true → is_some (lookup t n) ≡ true
  unfolding lookup
  open_lower t n m e le h = get_lower (table t (n % 4)) (m / 4) (n / 4) (omega arith) (rw e at h)

  each_in : (f : X → X) (t : Tables X) (k i : ℕ) → k < 4 → slice_get (table (each f t) k) i ≡ option_map f (slice_get (table t k) i)
  unfolding each
  each_in f t k i lt = grind (arith, nat_tests, slice_get-map)

  pub lookup_each : (f : X → X) (t : Tables X) (m : ℕ) → lookup (each f t) m ≡ option_map f (lookup t m)
  unfolding lookup
  lookup_each f t m = each_in f t (m % 4) (m / 4) (omega arith)

  pub slots_each : (P : ℕ → Option X → Type 0) (f : X → X) (t : Tables X) → ((m : ℕ) → P m (option_map f (lookup t m))) → (m : ℕ) → P m (lookup (each f t) m)
  slots_each P f t all m = subst (P m) (sym (lookup_each f t m)) (all m)

-- the sums
abbrev pub value : {X : Type 0} → (X → ℕ) → Option X → ℕ
value f None = 0
value f (Some x) = f x

module _ {X : Type 0} (f : X → ℕ) where
  sum_set : (xs : List X) (i : ℕ) (x y : X) → slice_get xs i ≡ Some x → sum_by f (slice_set xs i y) + f x ≡ sum_by f xs + f y
  sum_set [] i x y e = absurd (none-some x e)
  sum_set (z ∷ xs) zero x y e =
      let same : z ≡ x = same_Some z x e in
      rw (sum_by-cons f y xs, sum_by-cons f z xs, same) (omega arith)
  sum_set (z ∷ xs) (suc i) x y e = rw (sum_by-cons f z (slice_set xs i y), sum_by-cons f z xs) (omega (arith, sum_set xs i x y e))

  total_with : (t : Tables X) (k : ℕ) (ys : List X) → total f (with_table t k ys) + sum_by f (table t k) ≡ total f t + sum_by f ys
  unfolding total
  total_with t k ys = grind arith

  pub total_update : (t : Tables X) (n : ℕ) (x y : X) → lookup t n ≡ Some x → total f (update t n y) + f x ≡ total f t + f y
  unfolding update lookup
  total_update t n x y e = omega (arith, total_with t (n % 4) (slice_set (table t (n % 4)) (n / 4) y), sum_set (table t (n % 4)) (n / 4) x y e)

  sum_begun : (begin : ℕ → X) (lo k : ℕ) → ((i : ℕ) → f (begin i) ≡ 0) → sum_by f (map begin (range_with_len lo k)) ≡ 0
  sum_begun begin lo zero e = refl
  sum_begun begin lo (suc k) e = sum_by-cons f (begin lo) (map begin (range_with_len (lo + 1) k)) ∙ omega (arith, e lo, sum_begun begin (lo + 1) k e)

  sum_widened : (xs : List X) (n : ℕ) (begin : ℕ → X) → ((i : ℕ) → f (begin i) ≡ 0) → sum_by f (widened xs n begin) ≡ sum_by f xs
  sum_widened xs n begin e = sum_by-append f xs _ ∙ omega (arith, sum_begun begin (length xs) (n - length xs) e)

  pub total_open : (t : Tables X) (n : ℕ) (begin : ℕ → X) → ((m : ℕ) → f (begin m) ≡ 0) → total f (open_to t n begin) ≡ total f t
  unfolding open_to
  total_open t n begin e =
      omega (arith, total_with t (n % 4) (widened (table t (n % 4)) (n / 4 + 1) (λ i. begin (i * 4 + n % 4))), sum_widened (table t (n % 4)) (n / 4 + 1) (λ i. begin (i * 4 + n % 4)) (λ i. e (i * 4 + n % 4)))

  sum_map : (g : X → X) (xs : List X) → ((x : X) → f (g x) ≡ f x) → sum_by f (map g xs) ≡ sum_by f xs
  sum_map g [] e = refl
  sum_map g (x ∷ xs) e = sum_by-cons f (g x) (map g xs) ∙ (λ i. e x i + sum_map g xs e i) ∙ sym (sum_by-cons f x xs)

  pub total_each : (g : X → X) (t : Tables X) → ((x : X) → f (g x) ≡ f x) → total f (each g t) ≡ total f t
  unfolding total each
  total_each g t e = λ i. sum_map g t.client_bidi e i + sum_map g t.server_bidi e i + sum_map g t.client_uni e i + sum_map g t.server_uni e i

module _ {X Y : Type 0} (f : X → ℕ) (g : Y → ℕ) where
  sums_le : (xs : List X) (ys : List Y) → ((i : ℕ) → value f (slice_get xs i) ≤ value g (slice_get ys i)) → sum_by f xs ≤ sum_by g ys
  sums_le [] ys le = omega arith
  sums_le (x ∷ xs) [] le = rw (sum_by-cons f x xs) (omega (arith, sums_le xs [] (λ i. le (suc i)), le 0))
  sums_le (x ∷ xs) (y ∷ ys) le = rw (sum_by-cons f x xs, sum_by-cons g y ys) (omega (arith, sums_le xs ys (λ i. le (suc i)), le 0))

  pub total_le : (a : Tables X) (b : Tables Y) → ((m : ℕ) → value f (lookup a m) ≤ value g (lookup b m)) → total f a ≤ total g b
  unfolding total lookup
  total_le a b le =
      omega (
        arith,
        sums_le a.client_bidi b.client_bidi (λ i. at 0 i (omega arith)),
        sums_le a.server_bidi b.server_bidi (λ i. at 1 i (omega arith)),
        sums_le a.client_uni b.client_uni (λ i. at 2 i (omega arith)),
        sums_le a.server_uni b.server_uni (λ i. at 3 i (omega arith)),
      )
    where
      at : (k i : ℕ) → k < 4 → value f (slice_get (table a k) i) ≤ value g (slice_get (table b k) i)
      at k i lt =
          let kind : (i * 4 + k) % 4 ≡ k = omega arith in
          let index : (i * 4 + k) / 4 ≡ i = omega arith in
          subst (λ j. value f (slice_get (table a k) j) ≤ value g (slice_get (table b k) j)) index
          (subst (λ j. value f (slice_get (table a j) ((i * 4 + k) / 4)) ≤ value g (slice_get (table b j) ((i * 4 + k) / 4))) kind (le (i * 4 + k)))

-- the sum of two parts of each stream
module _ {X : Type 0} (f g : X → ℕ) where
  sum_both : (xs : List X) → sum_by (λ x. f x + g x) xs ≡ sum_by f xs + sum_by g xs
  sum_both [] = refl
  sum_both (x ∷ xs) = rw (sum_by-cons (λ y. f y + g y) x xs, sum_by-cons f x xs, sum_by-cons g x xs) (omega (arith, sum_both xs))

  pub total_both : (t : Tables X) → total (λ x. f x + g x) t ≡ total f t + total g t
  unfolding total
  total_both t = omega (arith, sum_both t.client_bidi, sum_both t.server_bidi, sum_both t.client_uni, sum_both t.server_uni)
