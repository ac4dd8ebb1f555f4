use Rattle.std.proofs.Common.{◌≡◌, ◌∙◌, ℕ, ◌+◌, ap, sym, length, List, [], ◌∷◌, Option, None, Some}
use Rattle.std.specs.Option.{IfSome, IfNone}
use Rattle.std.specs.FinMap as fmap
use Rattle.std.proofs.lemmas.List.{get_or_read}
use Rattle.qs_send.specs.declared.piece.Piece.{Piece}
use Rattle.qs_send.specs.Records.{IsSlotOf, packets_of, slot_at}
use Rattle.qs_send.proofs.Outstanding.{kept, get-slot}
use Rattle.qs_send.proofs.records.Records.only.Goals as goal

alone_at : (o : Option Piece) (base k n : ℕ) (ss : List (List Piece)) (s : List Piece) → base + k ≡ n → s ≡ slot_at ss k → IfSome o (λ p. s ≡ p ∷ []) → IfSome o (λ p. fmap.get (packets_of base ss) n ≡ Some (p ∷ []))
alone_at None base k n ss s is item alone = alone
alone_at (Some p) base k n ss s is item alone = get-slot base k n ss is ∙ ap kept (sym item ∙ alone)

kept_one : (s : List Piece) (p : Piece) → kept s ≡ Some (p ∷ []) → length s ≡ 1
kept_one [] p is = cc
kept_one (q ∷ s) p is = let one : q ∷ s ≡ p ∷ [] = cc in ap length one

none_at : (o : Option Piece) (base k n : ℕ) (ss : List (List Piece)) (s : List Piece) → base + k ≡ n → s ≡ slot_at ss k → IfNone o (length s ≡ 1 → ⊥) → IfNone o ((p : Piece) → fmap.get (packets_of base ss) n ≡ Some (p ∷ []) → ⊥)
none_at None base k n ss s is item none = λ p held. none (ap length item ∙ kept_one (slot_at ss k) p (sym (get-slot base k n ss is) ∙ held))
none_at (Some p) base k n ss s is item none = none

pub returns-in-Some : goal.returns-in-Some
returns-in-Some c =
    let base = c.self.inside.base in
    let slots = c.self.inside.slots.items in
    let at : IsSlotOf base (length slots) c.args.number c.in-Some.place = rw (← c.self.view_is) at c.in-Some.ensures.found in
    let item = get_or_read slots c.in-Some.place _ at.within c.index.ensures [] in
    rw (← c.self.view_is) record {
      alone = alone_at c.only.result base c.in-Some.place c.args.number slots _ at.number item c.only.ensures.alone;
      none = none_at c.only.result base c.in-Some.place c.args.number slots _ at.number item c.only.ensures.none;
    }
