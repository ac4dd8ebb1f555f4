-- Logs that are copied entry by entry.
use Rattle.std.proofs.Common.{◌≡◌, ℕ, ◌+◌, ◌<◌, List, [], ◌∷◌, ◌++◌, length, take, get_or, sym, ap, ◌∙◌, subst}
use Rattle.std.proofs.lemmas.List.{take_more}
use Rattle.qs_calls.specs.declared.event.Event.{Event}
use Rattle.qs_calls.specs.declared.answer.Answer.{Answer}
use Rattle.qs_world.specs.Copies.{SameEvent, SameAnswer, SameLog}

same_log_push : (xs ys : List (Event × Answer)) (x y : Event × Answer) → SameLog xs ys → SameEvent x.0 y.0 → SameAnswer x.1 y.1 → SameLog (xs ++ x ∷ []) (ys ++ y ∷ [])
same_log_push [] [] x y same event answer = (event, answer, tt)
same_log_push (z ∷ xs) (w ∷ ys) x y same event answer = (same.0, same.1, same_log_push xs ys x y same.2 event answer)
same_log_push [] (w ∷ ys) x y same event answer = absurd same
same_log_push (z ∷ xs) [] x y same event answer = absurd same

-- the front of a log, with a copy of the entry that is next
pub same_log_more : (xs log : List (Event × Answer)) (i : ℕ) (x y : Event × Answer) → i < length log → y ≡ get_or log i y →
    SameLog xs (take i log) → SameEvent x.0 y.0 → SameAnswer x.1 y.1 → SameLog (xs ++ x ∷ []) (take (i + 1) log)
same_log_more xs log i x y lt is same event answer =
    subst (SameLog (xs ++ x ∷ [])) (ap (λ z. take i log ++ z ∷ []) is ∙ sym (take_more log i y lt)) (same_log_push xs (take i log) x y same event answer)
