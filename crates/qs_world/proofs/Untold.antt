-- No event of a script tells an end of a close.
use Rattle.std.proofs.Common.{◌≡◌, ℕ, Bool, true, false, List, [], ◌∷◌, ◌||◌, Option, None, Some, Result, Ok, Err, refl, ap, ◌∙◌, if◌then◌else◌}
use Rattle.std.specs.List.{list_any}
use Rattle.std.proofs.lemmas.List.Folds.{list_any-append}
use Rattle.qs_calls.specs.declared.closing.Closing.{Closing}
use Rattle.qs_calls.specs.declared.closing.Received.{Received}
use Rattle.qs_calls.specs.declared.closing.Received.TheVariants.{Done, Duplicate, BelowFloor, PeerClosed, NoMemory}
use Rattle.qs_calls.specs.declared.event.Side.{Side}
use Rattle.qs_calls.specs.declared.event.Act.{Act}
use Rattle.qs_calls.specs.declared.event.Act.TheVariants as acts
use Rattle.qs_calls.specs.declared.answer.Answer.{Answer}
use Rattle.qs_calls.specs.declared.answer.Answer.TheVariants as answers
use Rattle.qs_recv.specs.declared.half.Read.{Read}
use Rattle.qs_recv.specs.declared.half.Read.TheVariants as reads
use Rattle.qs_runs.specs.Logs.{Happening, History, Effect, other, same_side, effects, effects_of, if_ok, came_effects, read_effects, sent_effects, closes_in, made, payload, was_noted_closed}
use Rattle.qs_runs.specs.Events.{Log, call_of, calls, happened}
use Rattle.qs_machine.specs.EndStep.{Receive}

abbrev closes_at : Side → Option Happening → Bool
closes_at t None = false
closes_at t (Some x) = list_any closes_in (if same_side t x.end then effects_of x.call x.answer else [])

stays_open : (b : Bool) (xs : List Effect) → list_any closes_in xs ≡ false → list_any closes_in (if b then xs else []) ≡ false
stays_open true xs none = none
stays_open false xs none = refl

answered : {R F : Type 0} (b : Bool) (r : Result R F) (told : R → List Effect) → ((x : R) → list_any closes_in (told x) ≡ false) → list_any closes_in (if b then if_ok r told else []) ≡ false
answered true (Ok x) told none = none x
answered true (Err fault) told none = refl
answered false r told none = refl

received_closes : (k : ℕ) (text : List ℕ) (r : Received) → list_any closes_in (came_effects k text r) ≡ false
received_closes k text Done = refl
received_closes k text Duplicate = refl
received_closes k text BelowFloor = refl
received_closes k text (PeerClosed code) = refl
received_closes k text NoMemory = refl

delivery_closes : (t s : Side) (k : ℕ) (r : Result Received Closing) (o : Option (List ℕ)) → closes_at t (elim o [ None ↦ None | Some text ↦ calls (other s) (Receive k text) r ]) ≡ false
delivery_closes t s k r None = refl
delivery_closes t s k r (Some text) = answered (same_side t (other s)) r (came_effects k text) (received_closes k text)

read_closes : (n : ℕ) (bytes : List ℕ) (r : Read) → list_any closes_in (read_effects n r bytes) ≡ false
read_closes n bytes (reads.Bytes count) = refl
read_closes n bytes reads.End = refl
read_closes n bytes (reads.Reset code) = refl
read_closes n bytes reads.Wait = refl

sent_closes : {M : Type 0} (text : List ℕ) (o : Option M) → list_any closes_in (sent_effects o text) ≡ false
sent_closes text (Some made) = refl
sent_closes text None = refl

event_closes : (h : History) (t s : Side) (act : Act) (answer : Answer) → closes_at t (call_of h s act answer) ≡ false
event_closes h t s (acts.OpenStream dir) (answers.OpenStream r) = stays_open (same_side t s) [] refl
event_closes h t s acts.Accept (answers.Accept r) = stays_open (same_side t s) [] refl
event_closes h t s (acts.Write n bytes) (answers.Write r) = answered (same_side t s) r _ (λ count. refl)
event_closes h t s (acts.Finish n) (answers.Finish r) = stays_open (same_side t s) [] refl
event_closes h t s (acts.Reset n code) (answers.Reset r) = answered (same_side t s) r _ (λ done. refl)
event_closes h t s (acts.Stop n code) (answers.Stop r) = answered (same_side t s) r _ (λ done. refl)
event_closes h t s (acts.ReadUpTo n size) (answers.ReadUpTo r bytes) = answered (same_side t s) r _ (read_closes n bytes.items)
event_closes h t s (acts.Make room) (answers.Make r text) = answered (same_side t s) r _ (sent_closes text.items)
event_closes h t s (acts.Lose k) (answers.Lose r) = stays_open (same_side t s) [] refl
event_closes h t s acts.Claim (answers.Claim r) = answered (same_side t s) r _ (λ number. refl)
event_closes h t s (acts.Deliver k) (answers.Deliver r) = delivery_closes t s k r (payload s k h)
event_closes h t s act answer = refl

pub never_told : (t : Side) (log : Log) → was_noted_closed t (happened log) ≡ false
unfolding effects
never_told t [] = refl
never_told t (x ∷ log) = goes (call_of (happened log) x.0.end x.0.act x.1) (never_told t log) (event_closes (happened log) t x.0.end x.0.act x.1)
  where
    goes : (o : Option Happening) → was_noted_closed t (happened log) ≡ false → closes_at t o ≡ false → was_noted_closed t (elim o [ None ↦ happened log | Some y ↦ y ∷ happened log ]) ≡ false
    goes None before none = before
    goes (Some y) before none = list_any-append closes_in (effects t (happened log)) (if same_side t y.end then effects_of y.call y.answer else []) ∙ ap (λ b. b || list_any closes_in (if same_side t y.end then effects_of y.call y.answer else [])) before ∙ none
