-- Lists by place, and by what is in them.
use Rattle.std.proofs.lemmas.Bool.Decides.{nat_tests}
use Rattle.std.proofs.Common.{◌≡◌, ℕ, zero, suc, ◌+◌, ◌-◌, ◌≤◌, List, [], ◌∷◌, ◌++◌, ◌⊎◌, length, take, drop, Some, slice_get, refl, sym, ap, ◌∙◌, arith, inl, inr, length-append, append-nil}
use Rattle.std.proofs.lemmas.Option.{none-some, same_Some}
use Rattle.qs_send.specs.Records.{Among}
use Rattle.qs_runs.specs.Agree.{IsPrefixOf}

module _ {X : Type 0} where
  pub slice_get-append : (xs ys : List X) (k : ℕ) (x : X) → slice_get xs k ≡ Some x → slice_get (xs ++ ys) k ≡ Some x
  slice_get-append [] ys k x e = absurd (none-some x e)
  slice_get-append (y ∷ xs) ys zero x e = e
  slice_get-append (y ∷ xs) ys (suc k) x e = slice_get-append xs ys k x e

  -- xs ++ y ∷ [] at a place: in xs, or y
  pub slice_get-push : (xs : List X) (y : X) (k : ℕ) (x : X) → slice_get (xs ++ y ∷ []) k ≡ Some x → (slice_get xs k ≡ Some x) ⊎ ((k ≡ length xs) × (x ≡ y))
  slice_get-push [] y zero x e = inr (refl, sym (same_Some y x e))
  slice_get-push [] y (suc k) x e = absurd (none-some x e)
  slice_get-push (z ∷ xs) y zero x e = inl e
  slice_get-push (z ∷ xs) y (suc k) x e = elim (slice_get-push xs y k x e) [ inl h ↦ inl h | inr h ↦ inr (ap suc h.0, h.1) ]

  pub slice_get-last : (xs : List X) (y : X) → slice_get (xs ++ y ∷ []) (length xs) ≡ Some y
  slice_get-last [] y = refl
  slice_get-last (x ∷ xs) y = slice_get-last xs y

  pub slice_get-take : (n : ℕ) (xs : List X) (i : ℕ) (x : X) → slice_get (take n xs) i ≡ Some x → slice_get xs i ≡ Some x
  slice_get-take (suc n) (y ∷ xs) zero x e = e
  slice_get-take (suc n) (y ∷ xs) (suc i) x e = slice_get-take n xs i x e
  slice_get-take _ xs i x e = absurd (none-some x e)

  pub slice_get-drop : (n : ℕ) (xs : List X) (i : ℕ) (x : X) → slice_get (drop n xs) i ≡ Some x → slice_get xs (n + i) ≡ Some x
  slice_get-drop zero xs i x e = (let same : 0 + i ≡ i = omega arith in rw same e)
  slice_get-drop (suc n) [] i x e = absurd (none-some x e)
  slice_get-drop (suc n) (y ∷ xs) i x e = (let same : suc n + i ≡ suc (n + i) = omega arith in rw same (slice_get-drop n xs i x e))

  -- a place of two lists joined: in the first, or past it in the second
  pub slice_get-joined : (xs ys : List X) (i : ℕ) (b : X) → slice_get (xs ++ ys) i ≡ Some b → (slice_get xs i ≡ Some b) ⊎ ((length xs ≤ i) × (slice_get ys (i - length xs) ≡ Some b))
  slice_get-joined [] ys i b e = (let same : i - 0 ≡ i = omega arith in inr (omega arith, rw same e))
  slice_get-joined (x ∷ xs) ys zero b e = inl e
  slice_get-joined (x ∷ xs) ys (suc i) b e =
      elim (slice_get-joined xs ys i b e) [
        | inl h ↦ inl h
        | inr h ↦ (let same : suc i - suc (length xs) ≡ i - length xs = omega arith in inr (omega (arith, h.0), rw same h.1))
      ]

  pub drop-none : (k : ℕ) → drop {A = X} k [] ≡ []
  drop-none k = grind (arith, nat_tests)

  pub drop-joined : (k : ℕ) (xs ys : List X) → k ≤ length xs → drop k (xs ++ ys) ≡ drop k xs ++ ys
  drop-joined zero xs ys le = refl
  drop-joined (suc k) [] ys le = absurd (omega arith)
  drop-joined (suc k) (x ∷ xs) ys le = drop-joined k xs ys (omega arith)

  -- what agrees place by place is a prefix
  pub prefix_by_place : (xs ys : List X) → ((i : ℕ) (b : X) → slice_get xs i ≡ Some b → slice_get ys i ≡ Some b) → IsPrefixOf xs ys
  prefix_by_place [] ys h = (ys, refl)
  prefix_by_place (x ∷ xs) [] h = absurd (none-some x (h 0 x refl))
  prefix_by_place (x ∷ xs) (y ∷ ys) h =
      let rest : IsPrefixOf xs ys = prefix_by_place xs ys (λ i b e. h (suc i) b e) in
      let same : y ≡ x = same_Some y x (h 0 x refl) in
      (rest.0, λ i. sym same i ∷ rest.1 i)

  -- a prefix of the same length is the whole
  pub same_length_prefix : (xs ys : List X) → IsPrefixOf xs ys → length xs ≡ length ys → xs ≡ ys
  same_length_prefix xs ys (rest, e) same = go rest (omega (arith, length-append xs rest, ap length e)) e
    where
      go : (r : List X) → length r ≡ 0 → xs ++ r ≡ ys → xs ≡ ys
      go [] none e = sym (append-nil xs) ∙ e
      go (x ∷ r) none e = absurd (omega arith)

  pub Among_left : (xs ys : List X) (x : X) → Among x xs → Among x (xs ++ ys)
  Among_left [] ys x a = absurd a
  Among_left (z ∷ xs) ys x (inl e) = inl e
  Among_left (z ∷ xs) ys x (inr a) = inr (Among_left xs ys x a)

  pub Among_right : (xs ys : List X) (x : X) → Among x ys → Among x (xs ++ ys)
  Among_right [] ys x a = a
  Among_right (z ∷ xs) ys x a = inr (Among_right xs ys x a)

  pub Among_either : (xs ys : List X) (x : X) → Among x (xs ++ ys) → Among x xs ⊎ Among x ys
  Among_either [] ys x a = inr a
  Among_either (z ∷ xs) ys x (inl e) = inl (inl e)
  Among_either (z ∷ xs) ys x (inr a) = elim (Among_either xs ys x a) [ inl b ↦ inl (inr b) | inr b ↦ inr b ]

  pub Among_push : (xs : List X) (y x : X) → Among x (xs ++ y ∷ []) → Among x xs ⊎ (x ≡ y)
  Among_push [] y x (inl e) = inr e
  Among_push [] y x (inr a) = absurd a
  Among_push (z ∷ xs) y x (inl e) = inl (inl e)
  Among_push (z ∷ xs) y x (inr a) = elim (Among_push xs y x a) [ inl b ↦ inl (inr b) | inr e ↦ inr e ]

  pub Among_last : (xs : List X) (x : X) → Among x (xs ++ x ∷ [])
  Among_last [] x = inl refl
  Among_last (z ∷ xs) x = inr (Among_last xs x)

  pub Among_take : (k : ℕ) (xs : List X) (x : X) → Among x (take k xs) → Among x xs
  Among_take (suc k) (y ∷ xs) x (inl e) = inl e
  Among_take (suc k) (y ∷ xs) x (inr a) = inr (Among_take k xs x a)
  Among_take _ xs x a = absurd a
