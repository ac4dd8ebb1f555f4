-- The places of the payloads in a log, and one event more.
use Rattle.std.proofs.Common.{◌≡◌, ℕ, zero, suc, Bool, true, false, ◌&&◌, List, [], ◌∷◌, ◌++◌, length, reverse, Option, Some, None, Ok, slice_get, IfSome, IfNone, refl, sym, ap, ◌∙◌, subst, if◌then◌else◌, append-nil}
use Rattle.std.proofs.lemmas.List.{reverse-append}
use Rattle.std.proofs.lemmas.Option.{none-some, same_Some}
use Rattle.qs_calls.specs.declared.event.Side.{Side}
use Rattle.qs_calls.specs.declared.event.Act.{Act}
use Rattle.qs_calls.specs.declared.event.Act.TheVariants as acts
use Rattle.qs_calls.specs.declared.event.Event.{Event}
use Rattle.qs_calls.specs.declared.answer.Answer.{Answer}
use Rattle.qs_calls.specs.declared.answer.Answer.TheVariants as answers
use Rattle.qs_runs.specs.Logs.{effects, payload, same_side, made, ping_text}
use Rattle.qs_runs.specs.Events.{Log, happened}
use Rattle.qs_runs.proofs.Scripts.{made_by, made_more}
use Rattle.qs_world.specs.Places.{makes, makes_by, text_of, IsPlace, ArePlaces, IsPlaceOf}
use Rattle.qs_runs.proofs.Lists.{slice_get-append, slice_get-last}

-- Places

Place_more : (log more : List (Event × Answer)) (place : ℕ) (text : List ℕ) → IsPlace log place text → IsPlace (log ++ more) place text
Place_more log more place text (x, at, is) = (x, slice_get-append log more place x at, is)

Places_more : (log more : List (Event × Answer)) (places : List ℕ) (texts : List (List ℕ)) → ArePlaces log places texts → ArePlaces (log ++ more) places texts
Places_more log more [] [] h = tt
Places_more log more (p ∷ ps) (t ∷ ts) h = (Place_more log more p t h.0, Places_more log more ps ts h.1)
Places_more log more [] (t ∷ ts) h = h
Places_more log more (p ∷ ps) [] h = h

Places_push : (log : List (Event × Answer)) (places : List ℕ) (texts : List (List ℕ)) (place : ℕ) (text : List ℕ) → ArePlaces log places texts → IsPlace log place text → ArePlaces log (places ++ place ∷ []) (texts ++ text ∷ [])
Places_push log [] [] place text h is = (is, tt)
Places_push log (p ∷ ps) (t ∷ ts) place text h is = (h.0, Places_push log ps ts place text h.1 is)
Places_push log [] (t ∷ ts) place text h is = absurd h
Places_push log (p ∷ ps) [] place text h is = absurd h

-- there are as many places as payloads
pub places_count : (log : List (Event × Answer)) (places : List ℕ) (texts : List (List ℕ)) → ArePlaces log places texts → length places ≡ length texts
places_count log [] [] h = refl
places_count log (p ∷ ps) (t ∷ ts) h = ap suc (places_count log ps ts h.1)
places_count log [] (t ∷ ts) h = absurd h
places_count log (p ∷ ps) [] h = absurd h

-- the place of a payload
pub place_found : (log : List (Event × Answer)) (places : List ℕ) (texts : List (List ℕ)) (k place : ℕ) → ArePlaces log places texts → slice_get places k ≡ Some place → (text : List ℕ) × (slice_get texts k ≡ Some text) × IsPlace log place text
place_found log [] texts k place h at = absurd (none-some place at)
place_found log (p ∷ ps) (t ∷ ts) zero place h at = (t, refl, subst (λ q. IsPlace log q t) (same_Some p place at) h.0)
place_found log (p ∷ ps) (t ∷ ts) (suc k) place h at = place_found log ps ts k place h.1 at
place_found log (p ∷ ps) [] k place h at = absurd h

pub place_none : (log : List (Event × Answer)) (places : List ℕ) (texts : List (List ℕ)) (k : ℕ) → ArePlaces log places texts → slice_get places k ≡ None → slice_get texts k ≡ None
place_none log [] [] k h at = refl
place_none log (p ∷ ps) (t ∷ ts) zero h at = absurd (none-some p (sym at))
place_none log (p ∷ ps) (t ∷ ts) (suc k) h at = place_none log ps ts k h.1 at
place_none log [] (t ∷ ts) k h at = absurd h
place_none log (p ∷ ps) [] k h at = absurd h

-- One event more

made_once : (act : Act) (answer : Answer) → makes_by act answer ≡ true → (text : List ℕ) × (made_by act answer ≡ text ∷ []) × (text_of answer ≡ Some text)
made_once (acts.Make room) (answers.Make (Ok (Some made)) text) is = (text.items, refl, refl)
made_once acts.Claim (answers.Claim (Ok number)) is = (ping_text, refl, refl)
made_once act answer is = absurd (cc)

made_nothing : (act : Act) (answer : Answer) → makes_by act answer ≡ false → made_by act answer ≡ []
made_nothing (acts.Make room) (answers.Make (Ok (Some made)) text) is = absurd (cc)
made_nothing acts.Claim (answers.Claim (Ok number)) is = absurd (cc)
made_nothing act answer is = refl

-- what an end made, and where, after one event more
pub places_kept : (s : Side) (log : List (Event × Answer)) (places : List ℕ) (event : Event) (answer : Answer) → ArePlaces log places (made s (happened (reverse log))) →
    ArePlaces (log ++ (event, answer) ∷ []) (if makes s event answer then places ++ length log ∷ [] else places) (made s (happened (reverse (log ++ (event, answer) ∷ []))))
places_kept s log places event answer h =
    subst (λ r. ArePlaces (log ++ (event, answer) ∷ []) (if makes s event answer then places ++ length log ∷ [] else places) (made s (happened r))) (sym (reverse-append log ((event, answer) ∷ [])))
    (subst (λ ts. ArePlaces (log ++ (event, answer) ∷ []) (if makes s event answer then places ++ length log ∷ [] else places) ts) (sym (made_more s (event, answer) (reverse log)))
    (go (same_side s event.end) _ refl))
  where
    old : ArePlaces (log ++ (event, answer) ∷ []) places (made s (happened (reverse log)))
    old = Places_more log ((event, answer) ∷ []) places (made s (happened (reverse log))) h

    same : (ts : List (List ℕ)) → ts ≡ [] → ArePlaces (log ++ (event, answer) ∷ []) places (made s (happened (reverse log)) ++ ts)
    same ts e = subst (λ x. ArePlaces (log ++ (event, answer) ∷ []) places (made s (happened (reverse log)) ++ x)) (sym e) (subst (λ x. ArePlaces (log ++ (event, answer) ∷ []) places x) (sym (append-nil (made s (happened (reverse log))))) old)

    go : (b c : Bool) → makes_by event.act answer ≡ c →
        ArePlaces (log ++ (event, answer) ∷ []) (if b && c then places ++ length log ∷ [] else places) (made s (happened (reverse log)) ++ (if b then made_by event.act answer else []))
    go false c e = same [] refl
    go true false e = same (made_by event.act answer) (made_nothing event.act answer e)
    go true true e =
        let (text, is, there) = made_once event.act answer e in
        subst (λ x. ArePlaces (log ++ (event, answer) ∷ []) (places ++ length log ∷ []) (made s (happened (reverse log)) ++ x)) (sym is)
        (Places_push (log ++ (event, answer) ∷ []) places (made s (happened (reverse log))) (length log) text old ((event, answer), slice_get-last log (event, answer), there))

-- the same, where the parts are known by equations
pub kept_by : (s : Side) (log new : List (Event × Answer)) (places after : List ℕ) (event : Event) (answer : Answer) (place : ℕ) (noted : Bool) → ArePlaces log places (made s (happened (reverse log))) →
    new ≡ log ++ (event, answer) ∷ [] → after ≡ (if noted then places ++ place ∷ [] else places) → noted ≡ makes s event answer → place ≡ length log → ArePlaces new after (made s (happened (reverse new)))
kept_by s log new places after event answer place noted h is_new is_after is_noted is_place =
    subst (λ x. ArePlaces x after (made s (happened (reverse x)))) (sym is_new)
    (subst (λ x. ArePlaces (log ++ (event, answer) ∷ []) x (made s (happened (reverse (log ++ (event, answer) ∷ []))))) (sym (is_after ∙ ap (λ b. if b then places ++ place ∷ [] else places) is_noted ∙ ap (λ q. if makes s event answer then places ++ q ∷ [] else places) is_place))
    (places_kept s log places event answer h))

-- where nothing has happened
pub no_places : (s : Side) (log : List (Event × Answer)) (places : List ℕ) → log ≡ [] → places ≡ [] → ArePlaces log places (made s (happened (reverse log)))
unfolding effects
no_places s log places e f =
    subst (λ x. ArePlaces x places (made s (happened (reverse x)))) (sym e) (subst (λ x. ArePlaces [] x (made s (happened []))) (sym f) tt)

-- A look-up

pub is_place_of : (s : Side) (h : Log) (places : List ℕ) (k : ℕ) (found : Option ℕ) → ArePlaces (reverse h) places (made s (happened h)) → found ≡ slice_get places k → IfSome found (IsPlaceOf s k h)
is_place_of s h places k None are is = tt
is_place_of s h places k (Some place) are is = place_found (reverse h) places (made s (happened h)) k place are (sym is)

pub no_place_of : (s : Side) (h : Log) (places : List ℕ) (k : ℕ) (found : Option ℕ) → ArePlaces (reverse h) places (made s (happened h)) → found ≡ slice_get places k → IfNone found (payload s k (happened h) ≡ None)
no_place_of s h places k (Some place) are is = tt
no_place_of s h places k None are is = place_none (reverse h) places (made s (happened h)) k are (sym is)
