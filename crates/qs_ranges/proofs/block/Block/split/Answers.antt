use Rattle.std.proofs.Common.{◌≡◌, ℕ, ◌+◌, ◌<◌, [], ◌∷◌, ◌++◌, length, take, drop, set, get_or, append_assoc, subst, sym, ap, ◌∙◌, arith}
use Rattle.std.proofs.lemmas.List.{take_more, set_at, length-take-le}
use Rattle.qs_ranges.specs.Runs.{Runs}
use Rattle.qs_ranges.proofs.block.Block.split.Goals as goal

-- an insert after a place, and then a write to that place
written : (runs : Runs) (at : ℕ) (left right : ℕ × ℕ) → at < length runs → set (take (at + 1) runs ++ right ∷ drop (at + 1) runs) at left ≡ take at runs ++ left ∷ right ∷ drop (at + 1) runs
written runs at left right within =
    ap (λ p. set (p ++ right ∷ drop (at + 1) runs) at left) (take_more runs at left within)
    ∙ ap (λ p. set p at left) (append_assoc (take at runs) (get_or runs at left ∷ []) (right ∷ drop (at + 1) runs))
    ∙ set_at (take at runs) (get_or runs at left) (right ∷ drop (at + 1) runs) left at (length-take-le at runs (omega arith))

pub returns-clause-ok : goal.returns-clause-ok
returns-clause-ok c =
    let at = c.args.at in
    let within : at < length c.self.inside.runs.items = subst (λ l. at < length l) (sym c.self.view_is) c.requires in
    ap (λ l. set l at c.args.left) c.in_ok-insert.ensures.items
    ∙ written c.self.inside.runs.items at c.args.left c.args.right within
    ∙ ap (λ l. take at l ++ c.args.left ∷ c.args.right ∷ drop (at + 1) l) c.self.view_is
