-- Records of packets: what one of them carries once a piece came or went.
use Rattle.std.proofs.lemmas.Bool.Decides.{nat_tests}
use Rattle.std.proofs.Common.{arith}
use Rattle.std.proofs.Common.{◌≡◌, ◌≢◌, ℕ, Bool, true, false, List, [], ◌∷◌, ◌++◌, ◌⊎◌, refl, sym, ap, ◌∙◌, subst, inl, inr, Option, None, Some, cond, nat_cmp, is_some}
use Rattle.std.proofs.lemmas.Bool.{cases_eq, eq-eqb, both_ways}
use Rattle.std.specs.FinMap as fmap
use Rattle.std.specs.Cmp.{nat_cmp_total, unsigned_tied}
use Rattle.std.specs.Ordering.{eq_by_cmp}
use Rattle.qs_send.specs.declared.piece.Piece.{Piece}
use Rattle.qs_machine.specs.Ends.{Records}
use Rattle.qs_machine.specs.Due.{Among}
use Rattle.qs_machine.specs.FrameStep.{without_first}
use Rattle.qs_machine.specs.Outgoing.{IsCarried, pieces_in, first_piece}

pub tied_itself : (k : ℕ) → eq_by_cmp nat_cmp k k ≡ true
tied_itself k = unsigned_tied k k ∙ eq-eqb k k refl

not_tied : (q k : ℕ) (b : Bool) → q ≢ k → eq_by_cmp nat_cmp q k ≡ b → eq_by_cmp nat_cmp q k ≡ false
not_tied q k b ne is = grind arith

pub get_new : {X : Type 0} (m : fmap.FinMap nat_cmp X) (k : ℕ) (v : X) → fmap.get (fmap.insert m k v) k ≡ Some v
get_new m k v = fmap.get-insert nat_cmp_total m k v k ∙ ap (λ x. cond x (Some v) (fmap.get m k)) (tied_itself k)

pub get_other : {X : Type 0} (m : fmap.FinMap nat_cmp X) (k : ℕ) (v : X) (q : ℕ) → q ≢ k → fmap.get (fmap.insert m k v) q ≡ fmap.get m q
get_other m k v q ne = fmap.get-insert nat_cmp_total m k v q ∙ ap (λ x. cond x (Some v) (fmap.get m q)) (not_tied q k _ ne refl)

pub get_removed : {X : Type 0} (m : fmap.FinMap nat_cmp X) (k : ℕ) → fmap.get (fmap.remove m k) k ≡ None
get_removed m k = fmap.get-remove nat_cmp_total m k k ∙ ap (λ x. cond x None (fmap.get m k)) (tied_itself k)

pub get_kept : {X : Type 0} (m : fmap.FinMap nat_cmp X) (k q : ℕ) → q ≢ k → fmap.get (fmap.remove m k) q ≡ fmap.get m q
get_kept m k q ne = fmap.get-remove nat_cmp_total m k q ∙ ap (λ x. cond x None (fmap.get m q)) (not_tied q k _ ne refl)

-- Lists

pub among_push : {X : Type 0} (xs : List X) (y x : X) → Among x (xs ++ y ∷ []) → Among x xs ⊎ (x ≡ y)
among_push [] y x (inl e) = inr e
among_push [] y x (inr a) = absurd a
among_push (z ∷ xs) y x (inl e) = inl (inl e)
among_push (z ∷ xs) y x (inr a) = elim (among_push xs y x a) [ inl b ↦ inl (inr b) | inr e ↦ inr e ]

pub among_more : {X : Type 0} (xs ys : List X) (x : X) → Among x xs → Among x (xs ++ ys)
among_more [] ys x a = absurd a
among_more (z ∷ xs) ys x (inl e) = inl e
among_more (z ∷ xs) ys x (inr a) = inr (among_more xs ys x a)

pub among_last : {X : Type 0} (xs : List X) (x : X) → Among x (xs ++ x ∷ [])
among_last [] x = inl refl
among_last (z ∷ xs) x = inr (among_last xs x)

-- A record without its first piece

-- m' is m, but that packet k lost its first piece p
pub record IsShorter (m : Records) (k : ℕ) (p : Piece) (m' : Records) : Type 0 where
  pub was : (ps : List Piece) × (fmap.get m k ≡ Some (p ∷ ps)) × ((qs : List Piece) → fmap.get m' k ≡ Some qs → qs ≡ ps) × ((q : Piece) → Among q ps → fmap.get m' k ≡ Some ps)
  pub others : (j : ℕ) → j ≢ k → fmap.get m' j ≡ fmap.get m j

pub some_is : {X : Type 0} (o : Option X) (x y : X) → o ≡ Some x → o ≡ Some y → x ≡ y
some_is o x y p q = grind arith

pub none_some : {X : Type 0} (x : X) → ◌≡◌ {A = Option X} None (Some x) → ⊥
none_some x e = both_ways true (sym (ap is_some e)) refl

pub shortened_is : (m : Records) (k : ℕ) (p : Piece) → first_piece (fmap.get m k) ≡ Some p → IsShorter m k p (without_first m k (fmap.get m k))
shortened_is m k p first = grind (arith, nat_tests, some_is, none_some, get_removed, get_kept, get_new, get_other)

module _ (m m' : Records) (k : ℕ) (p : Piece) (h : IsShorter m k p m') where
  -- what is carried still was carried before
  pub carried_before : (q : Piece) → IsCarried m' q → IsCarried m q
  carried_before q (j, qs, there, a) =
      elim (cases_eq j k) [
        | inl same ↦ (
          k,
          p ∷ h.was.0,
          h.was.1,
          inr (subst (Among q) (h.was.2 qs (ap (fmap.get m') (sym same) ∙ there)) a),
        )
        | inr ne ↦ (j, qs, sym (h.others j ne) ∙ there, a)
      ]

  -- what was carried is so still, but for the piece that went
  pub carried_still : (q : Piece) → IsCarried m q → (q ≡ p) ⊎ IsCarried m' q
  carried_still q (j, qs, there, a) =
      elim (cases_eq j k) [
        | inl same ↦ at_k (subst (Among q) (some_is _ qs (p ∷ h.was.0) (ap (fmap.get m) (sym same) ∙ there) h.was.1) a)
        | inr ne ↦ inr (j, qs, h.others j ne ∙ there, a)
      ]
    where
      at_k : Among q (p ∷ h.was.0) → (q ≡ p) ⊎ IsCarried m' q
      at_k (inl e) = inl e
      at_k (inr b) = inr (k, h.was.0, h.was.3 q b, b)

  pub first_carried : IsCarried m p
  first_carried = (k, p ∷ h.was.0, h.was.1, inl refl)

-- A record with a piece more

-- m' is m, but that packet k has one piece more
abbrev pub with_piece : Records → ℕ → Piece → Records
with_piece m k p = fmap.insert m k (pieces_in m k ++ p ∷ [])

pub so_far : (o : Option (List Piece)) (x : Piece) → Among x (elim o [ None ↦ [] | Some ps ↦ ps ]) → (ps : List Piece) × (o ≡ Some ps) × Among x ps
so_far o x a = grind arith

module _ (m : Records) (k : ℕ) (p : Piece) where
  pub carried_more : (x : Piece) → IsCarried m x → IsCarried (with_piece m k p) x
  carried_more x (j, ps, there, a) =
      elim (cases_eq j k) [
        | inl same ↦ (
          k,
          pieces_in m k ++ p ∷ [],
          get_new m k _,
          among_more (pieces_in m k) (p ∷ []) x (subst (λ o. Among x (elim o [ None ↦ [] | Some qs ↦ qs ])) (sym there ∙ ap (fmap.get m) same) a),
        )
        | inr ne ↦ (j, ps, get_other m k _ j ne ∙ there, a)
      ]

  pub carried_new : IsCarried (with_piece m k p) p
  carried_new = (k, pieces_in m k ++ p ∷ [], get_new m k _, among_last (pieces_in m k) p)

  pub carried_is : (x : Piece) → IsCarried (with_piece m k p) x → IsCarried m x ⊎ (x ≡ p)
  carried_is x h = grind (arith, nat_tests, cases_eq, among_push, some_is, get_new, so_far, get_other)
