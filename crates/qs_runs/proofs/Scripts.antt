-- The events of scripts as calls: what they make.
use Rattle.std.proofs.lemmas.Bool.Decides.{nat_tests}
use Rattle.std.proofs.Common.{arith}
use Rattle.std.proofs.Common.{◌≡◌, ℕ, Bool, true, false, List, [], ◌∷◌, ◌++◌, Option, None, Some, Result, Ok, refl, sym, ap, ◌∙◌, if◌then◌else◌, append-nil}
use Rattle.std.specs.Prelude.{flat_map}
use Rattle.std.proofs.lemmas.Grind.{flat_map-append}
use Rattle.qs_calls.specs.declared.closing.Closing.{Closing}
use Rattle.qs_calls.specs.declared.closing.Received.{Received}
use Rattle.qs_calls.specs.declared.event.Side.{Side}
use Rattle.qs_calls.specs.declared.event.Act.{Act}
use Rattle.qs_calls.specs.declared.event.Act.TheVariants as acts
use Rattle.qs_calls.specs.declared.answer.Answer.{Answer}
use Rattle.qs_calls.specs.declared.answer.Answer.TheVariants as answers
use Rattle.qs_runs.specs.Logs.{Happening, History, Effect, other, same_side, effects, effects_of, sent_in, made, ping_text}
use Rattle.qs_calls.specs.declared.event.Event.{Event}
use Rattle.qs_runs.specs.Events.{Log, call_of, calls, happened}
use Rattle.qs_machine.specs.EndStep.{Receive}

-- the payload of the packet that an event made, or for which it claimed a number
abbrev pub made_by : Act → Answer → List (List ℕ)
made_by (acts.Make room) (answers.Make (Ok (Some made)) text) = text.items ∷ []
made_by acts.Claim (answers.Claim (Ok number)) = ping_text ∷ []
made_by act answer = []

-- what a call sends at one end, where there is one
abbrev sent_at : Side → Option Happening → List (List ℕ)
sent_at t None = []
sent_at t (Some x) = if same_side t x.end then flat_map sent_in (effects_of x.call x.answer) else []

nothing : {X : Type 0} (b : Bool) (xs ys : List X) → xs ≡ [] → ys ≡ [] → (if b then xs else ys) ≡ []
nothing b xs ys x y = grind (arith, nat_tests)

delivery_sends : (t s : Side) (k : ℕ) (r : Result Received Closing) (o : Option (List ℕ)) → sent_at t (elim o [ None ↦ None | Some text ↦ calls (other s) (Receive k text) r ]) ≡ []
delivery_sends t s k r o = grind (arith, nat_tests)

event_sends : (h : History) (t s : Side) (act : Act) (answer : Answer) → sent_at t (call_of h s act answer) ≡ (if same_side t s then made_by act answer else [])
event_sends h t s act answer = grind (arith, nat_tests, delivery_sends, nothing)

-- what an end made, after one event more
pub made_more : (t : Side) (x : Event × Answer) (log : Log) → made t (happened (x ∷ log)) ≡ made t (happened log) ++ (if same_side t x.0.end then made_by x.0.act x.1 else [])
unfolding effects
made_more t x log = goes (call_of (happened log) x.0.end x.0.act x.1) ∙ ap (λ ts. made t (happened log) ++ ts) (event_sends (happened log) t x.0.end x.0.act x.1)
  where
    picked : (b : Bool) (xs : List Effect) → flat_map sent_in (if b then xs else []) ≡ (if b then flat_map sent_in xs else [])
    picked true xs = refl
    picked false xs = refl

    goes : (o : Option Happening) → made t (elim o [ None ↦ happened log | Some y ↦ y ∷ happened log ]) ≡ made t (happened log) ++ sent_at t o
    goes None = sym (append-nil (made t (happened log)))
    goes (Some y) =
        flat_map-append sent_in (effects t (happened log)) (if same_side t y.end then effects_of y.call y.answer else [])
        ∙ ap (λ ts. made t (happened log) ++ ts) (picked (same_side t y.end) (effects_of y.call y.answer))
