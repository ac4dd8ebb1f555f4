use Rattle.std.proofs.Common.{◌≡◌, ◌∙◌, ℕ, ◌+◌, ◌<◌, cond, nat_eq, List, [], Option, length, drop, slice_set, slice_index_or, false, refl, sym, ap, subst, arith, rules}
use Rattle.std.proofs.lemmas.List.{get_or_read, length-set}
use Rattle.std.specs.FinMap as fmap
use Rattle.qs_send.specs.declared.piece.Piece.{Piece}
use Rattle.qs_send.specs.Records.{IsSlotOf, slot_at, packets_of, without_first}
use Rattle.qs_send.proofs.Outstanding.{kept, found, found_set, get-slot, get-packets_of, packets_of-is, rest_of, get-without_first, unheld-without_first}
use Rattle.qs_send.proofs.records.Records.drop_first.Goals as goal

rest_kept : (s : List Piece) → kept (drop 1 s) ≡ rest_of (kept s)
rest_kept [] = refl
rest_kept _ = refl

shorter : (base k n : ℕ) (ss : List (List Piece)) → base + k ≡ n → k < length ss
    → packets_of base (slice_set ss k (drop 1 (slot_at ss k))) ≡ without_first (packets_of base ss) n (fmap.get (packets_of base ss) n)
shorter base k n ss is within = packets_of-is base _ _ (λ q.
    found_set q base n k ss (drop 1 (slot_at ss k)) is within
    ∙ ap (λ (o : Option (List Piece)). cond (nat_eq q n) o (found q base ss)) (rest_kept (slot_at ss k) ∙ ap rest_of (sym (get-slot base k n ss is)))
    ∙ ap (cond (nat_eq q n) (rest_of (fmap.get (packets_of base ss) n))) (sym (get-packets_of base ss q))
    ∙ sym (get-without_first (packets_of base ss) n q))

-- the pieces before the slot is noted
now : (base k n : ℕ) (ss : List (List Piece)) (slot rest : List Piece) → IsSlotOf base (length ss) n k → slot ≡ slice_index_or ss k slot → rest ≡ drop 1 slot → packets_of base (slice_set ss k rest) ≡ without_first (packets_of base ss) n (fmap.get (packets_of base ss) n)
now base k n ss slot rest at value is =
    let item = get_or_read ss k slot at.within value [] in
    ap (λ s. packets_of base (slice_set ss k s)) (is ∙ ap (drop 1) item) ∙ shorter base k n ss at.number at.within

pub returns-in-Some-clause-pieces : goal.returns-in-Some-clause-pieces
returns-in-Some-clause-pieces c = search (rules, found, now)

pub invariant_of-self : goal.invariant_of-self
invariant_of-self c =
    let base = c.self.inside.base in
    let slots = c.self.inside.slots.items in
    let at : IsSlotOf base (length slots) c.args.number c.in-Some.place = rw (← c.self.view_is) at c.in-Some.ensures.found in
    let is = now base c.in-Some.place c.args.number slots _ _ at c.index_mut.ensures.value c.drop_first.ensures in
    let len = length-set slots c.in-Some.place c.drop_first.new.self in
    let fits = c.self.invariant.0 in (
      omega (arith, len, fits),
      c.self.invariant.1,
      λ i gone. subst (λ m. fmap.contains_key m (c.self.inside.first + i) ≡ false) (sym is) (unheld-without_first (packets_of base slots) c.args.number (c.self.inside.first + i) (c.self.invariant.2 i gone)),
    )
