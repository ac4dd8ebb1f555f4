-- The numbers of outstanding packets that a test takes, from the highest down.
use Rattle.std.proofs.Common.{◌≡◌, ℕ, ◌+◌, ◌<◌, ◌≤◌, Bool, true, false, ◌&&◌, ◌||◌, cond, List, [], ◌∷◌, ◌++◌, map, append-nil, nat_cmp, is_some, refl, sym, subst, ap, ◌∙◌, inl, inr, arith}
use Rattle.std.specs.Prelude.{⊤, T, reverse}
use Rattle.std.specs.List.{list_any, filter}
use Rattle.std.specs.Ordering.{eq_by_cmp, is_lt}
use Rattle.std.specs.Cmp.{unsigned_tied}
use Rattle.std.specs.FinMap as fmap
use Rattle.std.specs.FinMap.Entries.{below_all}
use Rattle.std.proofs.lemmas.Bool.{both_ways, eq-eqb, true_from_ne_false, or_parts}
use Rattle.std.proofs.lemmas.List.{reverse-append}
use Rattle.std.proofs.lemmas.List.Elements.{filter-append}
use Rattle.qs_send.specs.Records.{Among}
use Rattle.qs_machine.proofs.AcksAgain.{among_any, among_filter, filter_among}

-- Rising lists

abbrev pub Rises : ℕ → List ℕ → Type 0
Rises low [] = ⊤
Rises low (x ∷ xs) = (low ≤ x) × Rises (x + 1) xs

pub above : (low : ℕ) (xs : List ℕ) → Rises low xs → (j : ℕ) → Among j xs → low ≤ j
above low [] r j a = absurd a
above low (x ∷ xs) r j (inl e) = omega (arith, r.0, e)
above low (x ∷ xs) r j (inr a) = (let h = above (x + 1) xs r.1 j a in omega (arith, r.0, h))

filter_none : (f : ℕ → Bool) (xs : List ℕ) → ((j : ℕ) → Among j xs → f j ≡ false) → filter f xs ≡ []
filter_none f [] h = refl
filter_none f (x ∷ xs) h = ap (λ b. cond b (x ∷ filter f xs) (filter f xs)) (h x (inl refl)) ∙ filter_none f xs (λ j a. h j (inr a))

filter_same : (f g : ℕ → Bool) (xs : List ℕ) → ((j : ℕ) → Among j xs → f j ≡ g j) → filter f xs ≡ filter g xs
filter_same f g [] h = refl
filter_same f g (x ∷ xs) h =
    ap (λ b. cond b (x ∷ filter f xs) (filter f xs)) (h x (inl refl)) ∙ ap (λ ys. cond (g x) (x ∷ ys) ys) (filter_same f g xs (λ j a. h j (inr a)))

-- a filter that finds, of a list's head and the rest, what another one does and then ys
filter_then : (f g : ℕ → Bool) (x : ℕ) (xs ys : List ℕ) → f x ≡ g x → filter f xs ≡ filter g xs ++ ys → filter f (x ∷ xs) ≡ filter g (x ∷ xs) ++ ys
filter_then f g x xs ys here rest = grind arith

-- The greatest number that is looked for comes first.
greatest_first : (f g : ℕ → Bool) (k start : ℕ) (xs : List ℕ) → Rises start xs → Among k xs → f k ≡ true → ((j : ℕ) → k ≤ j → g j ≡ false) → ((j : ℕ) → j < k → f j ≡ g j) → ((j : ℕ) → k < j → Among j xs → f j ≡ false)
    → filter f xs ≡ filter g xs ++ k ∷ []
greatest_first f g k start [] r a is out same none = absurd a
greatest_first f g k start (x ∷ xs) r (inl e) is out same none =
    let later : (j : ℕ) → Among j xs → k < j = λ j a. (let h = above (x + 1) xs r.1 j a in omega (arith, h, e)) in
    let rest : filter f xs ≡ [] = filter_none f xs (λ j a. none j (later j a) (inr a)) in
    let gone : filter g (x ∷ xs) ≡ [] = filter_none g (x ∷ xs) (λ j a. out j (at_or_after j a)) in
    let here : f x ≡ true = ap f (sym e) ∙ is in
    ap (λ b. cond b (x ∷ filter f xs) (filter f xs)) here ∙ ap (λ zs. x ∷ zs) rest ∙ ap (λ z. z ∷ []) (sym e) ∙ ap (λ zs. zs ++ k ∷ []) (sym gone)
  where
    at_or_after : (j : ℕ) → Among j (x ∷ xs) → k ≤ j
    at_or_after j (inl same) = omega (arith, same, e)
    at_or_after j (inr a) = (let h = above (x + 1) xs r.1 j a in omega (arith, h, e))
greatest_first f g k start (x ∷ xs) r (inr a) is out same none =
    let before : x < k = (let h = above (x + 1) xs r.1 k a in omega (arith, h)) in
    filter_then f g x xs (k ∷ []) (same x before) (greatest_first f g k (x + 1) xs r.1 a is out same (λ j gt b. none j gt (inr b)))

-- The keys of a map

and_first : (a b : Bool) → T (a && b) → T a
and_first a b h = grind arith

and_second : (a b : Bool) → T (a && b) → T b
and_second a b h = grind arith

less_is : (x y : ℕ) → T (is_lt (nat_cmp x y)) → x < y
less_is x y h = grind arith

module _ {X : Type 0} where
  rise_after : (x : ℕ) (es : List (ℕ × X)) → T (below_all nat_cmp x es) → T (fmap.is_sorted nat_cmp es) → Rises (x + 1) (map (λ e. e.0) es)
  rise_after x [] b s = tt
  rise_after x (e ∷ es) b s = ((let lt = less_is x e.0 (and_first _ _ b) in omega (arith, lt)), rise_after e.0 es (and_first _ _ s) (and_second _ _ s))

  rise : (es : List (ℕ × X)) → T (fmap.is_sorted nat_cmp es) → Rises 0 (map (λ e. e.0) es)
  rise [] s = tt
  rise (e ∷ es) s = (omega arith, rise_after e.0 es (and_first _ _ s) (and_second _ _ s))

  pub keys_rise : (m : fmap.FinMap nat_cmp X) → Rises 0 (fmap.keys m)
  keys_rise m = rise (fmap.entries m) (fmap.entries_sorted m)

any_among : (k : ℕ) (xs : List ℕ) → list_any (eq_by_cmp nat_cmp k) xs ≡ false → Among k xs → ⊥
any_among k [] h a = a
any_among k (x ∷ xs) h (inl e) = both_ways _ h (ap (λ b. b || list_any (eq_by_cmp nat_cmp k) xs) (unsigned_tied k x ∙ eq-eqb k x e))
any_among k (x ∷ xs) h (inr a) = any_among k xs (or_parts _ _ h).1 a

module _ {X : Type 0} (m : fmap.FinMap nat_cmp X) where
  held : (k : ℕ) → is_some (fmap.get m k) ≡ true → Among k (fmap.keys m)
  held k is = among_any k (fmap.keys m) (sym (fmap.contains_key-keys m k) ∙ is)

  is_held : (j : ℕ) → Among j (fmap.keys m) → is_some (fmap.get m j) ≡ true
  is_held j a = true_from_ne_false _ (λ is. any_among j (fmap.keys m) (sym (fmap.contains_key-keys m j) ∙ is) a)

  -- The greatest held number that f takes comes first, and then those that g takes.
  pub filter_first : (f g : ℕ → Bool) (k : ℕ) → is_some (fmap.get m k) ≡ true → f k ≡ true → ((j : ℕ) → k ≤ j → g j ≡ false) → ((j : ℕ) → j < k → f j ≡ g j) → ((j : ℕ) → k < j → is_some (fmap.get m j) ≡ true → f j ≡ false)
      → reverse (filter f (fmap.keys m)) ≡ k ∷ reverse (filter g (fmap.keys m))
  filter_first f g k there is out same none =
      ap reverse (greatest_first f g k 0 (fmap.keys m) (keys_rise m) (held k there) is out same (λ j gt a. none j gt (is_held j a)))
      ∙ reverse-append (filter g (fmap.keys m)) (k ∷ [])

  -- nothing that f takes is held
  pub filter_nothing : (f : ℕ → Bool) → ((j : ℕ) → is_some (fmap.get m j) ≡ true → f j ≡ false) → reverse (filter f (fmap.keys m)) ≡ []
  filter_nothing f none = ap reverse (filter_none f (fmap.keys m) (λ j a. none j (is_held j a)))

  -- the tests need be alike of what is held alone
  pub filter_held : (f g : ℕ → Bool) → ((j : ℕ) → is_some (fmap.get m j) ≡ true → f j ≡ g j) → filter f (fmap.keys m) ≡ filter g (fmap.keys m)
  filter_held f g same = filter_same f g (fmap.keys m) (λ j a. same j (is_held j a))

-- Filters of filters

pub filter_both : (f g : ℕ → Bool) (xs : List ℕ) → filter f (filter g xs) ≡ filter (λ x. g x && f x) xs
filter_both f g [] = refl
filter_both f g (x ∷ xs) = go (g x) (filter g xs) (filter (λ y. g y && f y) xs) (filter_both f g xs)
  where
    go : (b : Bool) (ys zs : List ℕ) → filter f ys ≡ zs → filter f (cond b (x ∷ ys) ys) ≡ cond (b && f x) (x ∷ zs) zs
    go b ys zs h = grind arith

pub filter_reverse : (f : ℕ → Bool) (xs : List ℕ) → filter f (reverse xs) ≡ reverse (filter f xs)
filter_reverse f [] = refl
filter_reverse f (x ∷ xs) = ap (filter f) (reverse-append (x ∷ []) xs) ∙ filter-append f (reverse xs) (x ∷ []) ∙ ap (λ ys. ys ++ filter f (x ∷ [])) (filter_reverse f xs) ∙ go (f x)
  where
    go : (b : Bool) → reverse (filter f xs) ++ cond b (x ∷ []) [] ≡ reverse (cond b (x ∷ filter f xs) (filter f xs))
    go true = sym (reverse-append (x ∷ []) (filter f xs))
    go false = append-nil (reverse (filter f xs))

-- The keys of a map that holds no more

rises_from : (low more : ℕ) (xs : List ℕ) → low ≤ more → Rises more xs → Rises low xs
rises_from low more [] le r = tt
rises_from low more (x ∷ xs) le r = (omega (arith, le, r.0), r.1)

rises_filter : (f : ℕ → Bool) (low : ℕ) (xs : List ℕ) → Rises low xs → Rises low (filter f xs)
rises_filter f low [] r = tt
rises_filter f low (x ∷ xs) r = go (f x) (rises_filter f (x + 1) xs r.1)
  where
    go : (b : Bool) → Rises (x + 1) (filter f xs) → Rises low (cond b (x ∷ filter f xs) (filter f xs))
    go true h = (r.0, h)
    go false h = (let le = r.0 in rises_from low (x + 1) (filter f xs) (omega (arith, le)) h)

-- two rising lists with the same numbers are one
one_list : (low : ℕ) (xs ys : List ℕ) → Rises low xs → Rises low ys → ((j : ℕ) → Among j xs → Among j ys) → ((j : ℕ) → Among j ys → Among j xs) → xs ≡ ys
one_list low [] [] r s to from = refl
one_list low [] (y ∷ ys) r s to from = absurd (from y (inl refl))
one_list low (x ∷ xs) [] r s to from = absurd (to x (inl refl))
one_list low (x ∷ xs) (y ∷ ys) r s to from =
    let a = above y (y ∷ ys) (omega arith, s.1) x (to x (inl refl)) in
    let b = above x (x ∷ xs) (omega arith, r.1) y (from y (inl refl)) in
    let same : x ≡ y = omega (arith, a, b) in
    ap (λ z. z ∷ xs) same ∙ ap (λ zs. y ∷ zs) (one_list (x + 1) xs ys r.1 (subst (λ z. Rises (z + 1) ys) (sym same) s.1) (λ j h. later j x y ys same (above (x + 1) xs r.1 j h) (to j (inr h))) (λ j h. later j y x xs (sym same) (above (y + 1) ys s.1 j h) (from j (inr h))))
  where
    later : (j x y : ℕ) (ys : List ℕ) → x ≡ y → x + 1 ≤ j → Among j (y ∷ ys) → Among j ys
    later j x y ys same le h = grind arith

module _ {X : Type 0} (m n : fmap.FinMap nat_cmp X) (within : (j : ℕ) → is_some (fmap.get n j) ≡ true → is_some (fmap.get m j) ≡ true) where
  -- the keys of a map that holds no other numbers
  keys_within : filter (λ j. is_some (fmap.get n j)) (fmap.keys m) ≡ fmap.keys n
  keys_within =
      one_list 0 (filter (λ j. is_some (fmap.get n j)) (fmap.keys m)) (fmap.keys n) (rises_filter (λ j. is_some (fmap.get n j)) 0 (fmap.keys m) (keys_rise m)) (keys_rise n)
      (λ j a. held n j (filter_among (λ i. is_some (fmap.get n i)) j (fmap.keys m) a).1)
      (λ j a. among_filter (λ i. is_some (fmap.get n i)) j (fmap.keys m) (held m j (within j (is_held n j a))) (is_held n j a))

  -- A filter of its keys, and one of all keys of which some are filtered out.
  pub filter_within : (f g h : ℕ → Bool) → ((j : ℕ) → is_some (fmap.get m j) ≡ true → (g j && f j) ≡ (is_some (fmap.get n j) && h j)) → filter f (filter g (fmap.keys m)) ≡ filter h (fmap.keys n)
  filter_within f g h same =
      filter_both f g (fmap.keys m) ∙ filter_held m (λ j. g j && f j) (λ j. is_some (fmap.get n j) && h j) same
      ∙ sym (filter_both h (λ j. is_some (fmap.get n j)) (fmap.keys m)) ∙ ap (filter h) keys_within

-- Two filters, one after the other, and two others.
pub filters_held : {X : Type 0} (m : fmap.FinMap nat_cmp X) (f g p q : ℕ → Bool) → ((j : ℕ) → is_some (fmap.get m j) ≡ true → (g j && f j) ≡ (q j && p j)) → filter f (filter g (fmap.keys m)) ≡ filter p (filter q (fmap.keys m))
filters_held m f g p q same =
    filter_both f g (fmap.keys m) ∙ filter_held m (λ j. g j && f j) (λ j. q j && p j) same ∙ sym (filter_both p q (fmap.keys m))

-- what of two filters nothing passes
pub filters_nothing : {X : Type 0} (m : fmap.FinMap nat_cmp X) (f g : ℕ → Bool) → ((j : ℕ) → is_some (fmap.get m j) ≡ true → (g j && f j) ≡ false) → filter f (filter g (fmap.keys m)) ≡ []
filters_nothing m f g none = filter_both f g (fmap.keys m) ∙ filter_none (λ j. g j && f j) (fmap.keys m) (λ j a. none j (is_held m j a))

pub filter_empty : {X : Type 0} (m : fmap.FinMap nat_cmp X) (f : ℕ → Bool) → ((j : ℕ) → is_some (fmap.get m j) ≡ true → f j ≡ false) → filter f (fmap.keys m) ≡ []
filter_empty m f none = filter_none f (fmap.keys m) (λ j a. none j (is_held m j a))
