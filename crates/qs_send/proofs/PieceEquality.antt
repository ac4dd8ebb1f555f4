-- `==` on pieces says whether they are the same.
use Rattle.std.proofs.Common.{◌≡◌, ◌∙◌, List, [], ◌∷◌, true, false, arith, refl, ap, sym, inl, inr}
use Rattle.std.specs.List.{list_any}
use Rattle.std.proofs.lemmas.Bool.{both_ways, or_cases, or_left, or_right}
use Rattle.qs_send.specs.Records.{Among}
use Rattle.std.proofs.lemmas.Bool.Decides.{nat_tests}
use Rattle.qs_send.specs.declared.piece.Item.{Item}
use Rattle.qs_send.specs.declared.piece.Piece.{Piece}
use Rattle.qs_send.specs.contracts.piece.ItemPartialEq.TheImpl as item
use Rattle.qs_send.specs.contracts.piece.PiecePartialEq.TheImpl as piece

pub same_item : (i j : Item) → item.ghosts.eq i j ≡ true → i ≡ j
same_item i j h = grind (arith, nat_tests)

pub same_piece : (p q : Piece) → piece.ghosts.eq p q ≡ true → p ≡ q
same_piece p q h = grind (arith, nat_tests)

pub piece_self : (p : Piece) → piece.ghosts.eq p p ≡ true
piece_self p = grind (arith, nat_tests)

-- what `contains` answers for a list of pieces

pub among_of_any : (p : Piece) (xs : List Piece) → list_any (λ y. piece.ghosts.eq y p) xs ≡ true → Among p xs
among_of_any p [] h = absurd (both_ways false refl h)
among_of_any p (x ∷ xs) h =
    elim (or_cases (piece.ghosts.eq x p) (list_any (λ y. piece.ghosts.eq y p) xs) h) [ inl here ↦ inl (sym (same_piece x p here)) | inr later ↦ inr (among_of_any p xs later) ]

pub any_of_among : (p : Piece) (xs : List Piece) → Among p xs → list_any (λ y. piece.ghosts.eq y p) xs ≡ true
any_of_among p [] h = absurd h
any_of_among p (x ∷ xs) (inl same) = or_left (piece.ghosts.eq x p) _ (ap (λ y. piece.ghosts.eq y p) (sym same) ∙ piece_self p)
any_of_among p (x ∷ xs) (inr later) = or_right (piece.ghosts.eq x p) _ (any_of_among p xs later)
