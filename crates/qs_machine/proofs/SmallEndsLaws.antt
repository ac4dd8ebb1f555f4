-- What is open, carried and acknowledged at small ends.
use Rattle.std.proofs.Common.{arith}
use Rattle.std.proofs.Common.{◌≡◌, ℕ, ◌/◌, ◌%◌, [], ◌∷◌, slice_get, Bool, true, false, cond, Some, refl, sym, ap, ◌∙◌, subst, inl, inr}
use Rattle.std.specs.FinMap as fmap
use Rattle.std.specs.FinSet as set
use Rattle.std.specs.Ordering.{nat_cmp, eq_by_cmp}
use Rattle.std.specs.Cmp.{nat_cmp_total, unsigned_tied}
use Rattle.std.proofs.lemmas.Option.{same_Some, none-some}
use Rattle.std.proofs.lemmas.Bool.{false≢true, eq-eqb}
use Rattle.qs_send.specs.Records.{Among, IsCarried}
use Rattle.qs_send.specs.declared.piece.Piece.{Piece}
use Rattle.qs_machine.specs.Tables.{table, lookup}
use Rattle.qs_machine.specs.SmallEnds.{only}

pub none_in : {X : Type 0} (k : ℕ) (x : X) → fmap.get (fmap.empty {X = X} {R = nat_cmp}) k ≡ Some x → ⊥
none_in k x is = none-some x (sym (fmap.get-empty nat_cmp k) ∙ is)

-- one packet with one piece carries it
pub one_carried : (k : ℕ) (p : Piece) → IsCarried (fmap.insert fmap.empty k (p ∷ [])) p
one_carried k p = (k, p ∷ [], fmap.get-insert nat_cmp_total fmap.empty k (p ∷ []) k ∙ ap (λ b. cond b (Some (p ∷ [])) (fmap.get {R = nat_cmp} fmap.empty k)) (unsigned_tied k k ∙ eq-eqb k k refl), inl refl)

-- and no other one
pub only_carried : (k : ℕ) (p q : Piece) → IsCarried (fmap.insert fmap.empty k (p ∷ [])) q → q ≡ p
only_carried k p q (j, ps, is, among) = by_test (eq_by_cmp nat_cmp j k) (sym (fmap.get-insert nat_cmp_total fmap.empty k (p ∷ []) j) ∙ is)
  where
    by_test : (b : Bool) → cond b (Some (p ∷ [])) (fmap.get {R = nat_cmp} fmap.empty j) ≡ Some ps → q ≡ p
    by_test true e = elim (subst (Among q) (sym (same_Some (p ∷ []) ps e)) among) [ inl is ↦ is | inr none ↦ absurd none ]
    by_test false e = absurd (none_in j ps e)

-- where one stream is open, what is found is its part
at_place : {X : Type 0} (x y : X) (k i : ℕ) → slice_get (table (only x) k) i ≡ Some y → y ≡ x
at_place x y k i is = grind arith

pub only_open : {X : Type 0} (x y : X) (n : ℕ) → lookup (only x) n ≡ Some y → y ≡ x
unfolding lookup
only_open x y n is = at_place x y (n % 4) (n / 4) is

pub no_member : (k : ℕ) → set.contains {R = nat_cmp} set.empty k ≡ true → ⊥
no_member k is = false≢true (sym (set.contains-empty nat_cmp k) ∙ is)
