-- What holds of every element of a list, and of every piece that an ACK takes.
use Rattle.std.proofs.Common.{arith}
use Rattle.std.proofs.Common.{◌≡◌, ℕ, suc, Bool, true, false, List, [], ◌∷◌, ◌++◌, map, take, reverse, Option, Some, None, refl, sym, subst, inl, inr, if◌then◌else◌}
use Rattle.std.specs.Prelude.{flat_map}
use Rattle.std.specs.List.{AllByRecursion, filter}
use Rattle.std.specs.FinMap as fmap
use Rattle.std.proofs.lemmas.Grind.{reverse_onto}
use Rattle.qs_send.specs.Records.{Among}
use Rattle.qs_send.specs.declared.piece.Piece.{Piece}
use Rattle.qs_machine.specs.Ends.{End, Records}
use Rattle.qs_machine.specs.FrameStep.{AckedPiece, acked_at, held, pieces_of, acked_numbers, named_in, named, is_named}

module _ {X : Type 0} where
  pub All_append : (P : X → Type 0) (xs ys : List X) → AllByRecursion P xs → AllByRecursion P ys → AllByRecursion P (xs ++ ys)
  All_append P [] ys a b = b
  All_append P (x ∷ xs) ys a b = (a.0, All_append P xs ys a.1 b)

  pub All_take : (P : X → Type 0) (n : ℕ) (xs : List X) → AllByRecursion P xs → AllByRecursion P (take n xs)
  All_take P (suc n) (x ∷ xs) a = (a.0, All_take P n xs a.1)
  All_take P _ xs a = tt

  pub All_more : (P Q : X → Type 0) (xs : List X) → ((x : X) → P x → Q x) → AllByRecursion P xs → AllByRecursion Q xs
  All_more P Q [] more a = tt
  All_more P Q (x ∷ xs) more a = (more x a.0, All_more P Q xs more a.1)

  -- each element has it, so this one does
  pub All_at : (P : X → Type 0) (xs : List X) (x : X) → AllByRecursion P xs → Among x xs → P x
  All_at P [] x all a = absurd a
  All_at P (y ∷ xs) x all (inl e) = rw e all.0
  All_at P (y ∷ xs) x all (inr a) = All_at P xs x all.1 a

  pub All_filter : (p : X → Bool) (xs : List X) → AllByRecursion (λ x. p x ≡ true) (filter p xs)
  All_filter p [] = tt
  All_filter p (x ∷ xs) = go (All_filter p xs) (p x) refl
    where
      go : AllByRecursion (λ y. p y ≡ true) (filter p xs) → (b : Bool) → p x ≡ b → AllByRecursion (λ y. p y ≡ true) (if b then x ∷ filter p xs else filter p xs)
      go rest b e = grind arith

  pub All_reverse : (P : X → Type 0) (xs : List X) → AllByRecursion P xs → AllByRecursion P (reverse xs)
  All_reverse P [] a = tt
  All_reverse P (x ∷ xs) a = subst (AllByRecursion P) (sym (reverse_onto xs x [])) (All_append P (reverse xs) (x ∷ []) (All_reverse P xs a.1) (a.0, tt))

-- What holds of each piece of the packets that the ranges name, outstanding and lost, holds of all that an ACK takes.
module _ (P : AckedPiece → Type 0) (r : List (ℕ × ℕ)) where
  all_pieces : (late : Bool) (k : ℕ) (ps : List Piece) → ((p : Piece) → Among p ps → P (acked_at late k p)) → AllByRecursion P (map (acked_at late k) ps)
  all_pieces late k [] each = tt
  all_pieces late k (p ∷ ps) each = (each p (inl refl), all_pieces late k ps (λ q a. each q (inr a)))

  all_packets : (late : Bool) (m : Records) (ks : List ℕ) → AllByRecursion (λ k. is_named r k ≡ true) ks
      → ((k : ℕ) (ps : List Piece) → is_named r k ≡ true → fmap.get m k ≡ Some ps → (p : Piece) → Among p ps → P (acked_at late k p)) → AllByRecursion P (flat_map (pieces_of late m) ks)
  all_packets late m [] named each = tt
  all_packets late m (k ∷ ks) named each = All_append P (pieces_of late m k) _ (go (fmap.get m k) refl) (all_packets late m ks named.1 each)
    where
      go : (o : Option (List Piece)) → fmap.get m k ≡ o → AllByRecursion P (elim o [ None ↦ [] | Some ps ↦ map (acked_at late k) ps ])
      go None at = tt
      go (Some ps) at = all_pieces late k ps (each k ps named.0 at)

  pub all_named : (e : End) → ((late : Bool) (k : ℕ) (ps : List Piece) → is_named r k ≡ true → fmap.get (held late e) k ≡ Some ps → (p : Piece) → Among p ps → P (acked_at late k p))
      → AllByRecursion P (named e r)
  all_named e each = All_append P (named_in false e.outstanding r) _ (part false) (part true)
    where
      part : (late : Bool) → AllByRecursion P (named_in late (held late e) r)
      part late = all_packets late (held late e) (acked_numbers (held late e) r) (All_reverse _ (filter (is_named r) (fmap.keys (held late e))) (All_filter (is_named r) (fmap.keys (held late e)))) (each late)
