-- Any two outstanding pieces are apart, and stay so.
use Rattle.std.proofs.Common.{◌≡◌, ◌≢◌, ℕ, List, [], ◌∷◌, ◌++◌, refl, sym, ap, ◌∙◌, subst, inl, inr, Option, None, Some, arith, nat_cmp}
use Rattle.std.proofs.lemmas.Bool.{both_ways, cases_eq}
use Rattle.std.specs.FinMap as fmap
use Rattle.std.specs.FinSet as set
use Rattle.qs_send.specs.declared.parts.Chunk.{Chunk}
use Rattle.qs_send.specs.declared.piece.Item.{Item}
use Rattle.qs_send.specs.declared.piece.Piece.{Piece}
use Rattle.qs_send.specs.declared.piece.Piece.TheVariants.{Data, Told}
use Rattle.qs_send.specs.Lane.{Sending}
use Rattle.qs_send.specs.Chunks.{IsDueChunk}
use Rattle.qs_machine.specs.Ends.{Records}
use Rattle.qs_machine.specs.Due.{Among}
use Rattle.qs_machine.specs.Outgoing.{IsCarried, IsTied, Apart, ApartFrom, ApartAll, AreApartIn, pieces_in}
use Rattle.qs_machine.proofs.Carried.{some_is, none_some, IsShorter, with_piece, get_new, get_other, among_push}

pub apart_sym : (p q : Piece) → Apart p q → Apart q p
apart_sym (Data n c) (Data k d) h =
    λ same. (let a = h (sym same) in record { offsets = λ q low high low' high'. a.offsets q low' high' low high; ends = λ x y. a.ends y x })
apart_sym (Told i) (Told j) h = λ same. h (sym same)
apart_sym _ _ h = tt

pub apart_among : (p q : Piece) (ps : List Piece) → ApartFrom p ps → Among q ps → Apart p q
apart_among p q [] h a = absurd a
apart_among p q (r ∷ rs) h (inl e) = subst (Apart p) (sym e) h.0
apart_among p q (r ∷ rs) h (inr a) = apart_among p q rs h.1 a

from_push : (p q : Piece) (ps : List Piece) → ApartFrom p ps → Apart p q → ApartFrom p (ps ++ q ∷ [])
from_push p q [] h a = (a, tt)
from_push p q (r ∷ rs) h a = (h.0, from_push p q rs h.1 a)

all_push : (q : Piece) (ps : List Piece) → ApartAll ps → ((p : Piece) → Among p ps → Apart p q) → ApartAll (ps ++ q ∷ [])
all_push q [] h a = (tt, tt)
all_push q (p ∷ ps) h a = (from_push p q ps h.0 (a p (inl refl)), all_push q ps h.1 (λ r b. a r (inr b)))

pub apart_none : AreApartIn fmap.empty
apart_none =
    record {
      inside = λ k ps there. absurd (none_some ps (sym (fmap.get-empty nat_cmp k) ∙ there));
      across = λ k j ps qs p q ne there. absurd (none_some ps (sym (fmap.get-empty nat_cmp k) ∙ there));
    }

-- A piece goes

-- a record after it is a record before it, or one without its head
module _ (m m' : Records) (k : ℕ) (p : Piece) (h : IsShorter m k p m') where
  whole : (j : ℕ) (qs : List Piece) → fmap.get m' j ≡ Some qs → (rs : List Piece) × (fmap.get m j ≡ Some rs) × ((q : Piece) → Among q qs → Among q rs) × (ApartAll rs → ApartAll qs)
  whole j qs there = grind arith

  pub apart_shorter : AreApartIn m → AreApartIn m'
  apart_shorter a =
      record {
        inside = λ j qs there. (let w = whole j qs there in w.3 (a.inside j w.0 w.1));
        across = λ j i qs rs q r ne there here b d. (let w = whole j qs there in let v = whole i rs here in a.across j i w.0 v.0 q r ne w.1 v.1 (w.2 q b) (v.2 r d));
      }

  -- the piece that went is apart from all that stay
  pub gone_apart : AreApartIn m → (q : Piece) → IsCarried m' q → Apart p q
  gone_apart a q (j, qs, there, b) =
      elim (cases_eq j k) [
        | inl same ↦ apart_among p q h.was.0 (a.inside k (p ∷ h.was.0) h.was.1).0 (subst (Among q) (h.was.2 qs (ap (fmap.get m') (sym same) ∙ there)) b)
        | inr ne ↦ a.across k j (p ∷ h.was.0) qs p q (λ e. ne (sym e)) h.was.1 (sym (h.others j ne) ∙ there) (inl refl) b
      ]

-- A piece comes

so_far_all : (m : Records) (k : ℕ) → AreApartIn m → (o : Option (List Piece)) → fmap.get m k ≡ o → ApartAll (elim o [ None ↦ [] | Some ps ↦ ps ])
so_far_all m k a o is = grind arith

so_far_among : (m : Records) (k : ℕ) (q : Piece) (o : Option (List Piece)) → fmap.get m k ≡ o → Among q (elim o [ None ↦ [] | Some ps ↦ ps ]) → (ps : List Piece) × (fmap.get m k ≡ Some ps) × Among q ps
so_far_among m k q o is a = grind arith

module _ (m : Records) (k : ℕ) (p : Piece) (a : AreApartIn m) (new : (q : Piece) → IsCarried m q → Apart q p) where
  carried : (q : Piece) → Among q (pieces_in m k) → (ps : List Piece) × (fmap.get m k ≡ Some ps) × Among q ps
  carried q b = so_far_among m k q (fmap.get m k) refl b

  at_new : (ps : List Piece) → fmap.get (with_piece m k p) k ≡ Some ps → ps ≡ pieces_in m k ++ p ∷ []
  at_new ps there = some_is _ ps _ there (get_new m k _)

  -- a piece of packet k and one of another
  across_new : (j : ℕ) (ps qs : List Piece) (x y : Piece) → j ≢ k → fmap.get (with_piece m k p) k ≡ Some ps → fmap.get (with_piece m k p) j ≡ Some qs → Among x ps → Among y qs → Apart x y
  across_new j ps qs x y ne there here b d =
      let old : fmap.get m j ≡ Some qs = sym (get_other m k _ j ne) ∙ here in
      elim (among_push (pieces_in m k) p x (subst (Among x) (at_new ps there) b)) [
        | inl before ↦ (let w = carried x before in a.across k j w.0 qs x y (λ e. ne (sym e)) w.1 old w.2 d)
        | inr e ↦ subst (λ r. Apart r y) (sym e) (apart_sym y p (new y (j, qs, old, d)))
      ]

  pub apart_put : AreApartIn (with_piece m k p)
  apart_put =
      record {
        inside = λ j ps there.
            elim (cases_eq j k) [
              | inl same ↦
                  subst ApartAll (sym (at_new ps (ap (fmap.get (with_piece m k p)) (sym same) ∙ there)))
                  (all_push p (pieces_in m k) (so_far_all m k a (fmap.get m k) refl) (λ q b. (let w = carried q b in new q (k, w.0, w.1, w.2))))
              | inr ne ↦ a.inside j ps (sym (get_other m k _ j ne) ∙ there)
            ];
        across = λ j i ps qs x y ne there here b d.
            elim (cases_eq j k) [
              | inl same ↦ across_new i ps qs x y (λ e. ne (same ∙ sym e)) (ap (fmap.get (with_piece m k p)) (sym same) ∙ there) here b d
              | inr nj ↦
                  elim (cases_eq i k) [
                    | inl same ↦ apart_sym y x (across_new j qs ps y x nj (ap (fmap.get (with_piece m k p)) (sym same) ∙ here) there d b)
                    | inr ni ↦ a.across j i ps qs x y ne (sym (get_other m k _ j nj) ∙ there) (sym (get_other m k _ i ni) ∙ here) b d
                  ]
            ];
      }

-- What was due is apart from all that is outstanding

pub due_apart : (m : Records) (n : ℕ) (s : Sending) (c : Chunk) → IsTied m n s → IsDueChunk s c → (q : Piece) → IsCarried m q → Apart q (Data n c)
due_apart m n s c t due (Told i) out = tt
due_apart m n s c t due (Data k d) out =
    λ same.
    (let here : IsCarried m (Data n d) = subst (λ j. IsCarried m (Data j d)) same out in
    record {
      offsets = λ q low high low' high'. both_ways (set.contains s.due.offsets q) (t.not_due q (d, here, low, high)) (due.due q low' high');
      ends = λ fin end. (let none = t.end_not_due d here fin in let is = due.fin in absurd (grind (arith, none, is, end)));
    })

pub told_apart : (m : Records) (i : Item) → (IsCarried m (Told i) → ⊥) → (q : Piece) → IsCarried m q → Apart q (Told i)
told_apart m i new q out = grind arith
