-- Of private contracts.
-- A log in which a payload is found by its number: for each end the places of its payloads are kept.
use Rattle.std.specs.Prelude.{◌≡◌, ℕ, Bool, true, false, ◌&&◌, List, [], ◌∷◌, reverse, Option, None, Some, Ok, ⊤, slice_get, refl}
use Rattle.std.specs.Coded.{Coded, code_by, coded×, coded_bool, coded_list}
use Rattle.qs_calls.specs.declared.event.Side.{Side}
use Rattle.qs_calls.specs.declared.event.Act.{Act}
use Rattle.qs_calls.specs.declared.event.Act.TheVariants as acts
use Rattle.qs_calls.specs.declared.event.Event.{Event}
use Rattle.qs_calls.specs.declared.answer.Answer.{Answer}
use Rattle.qs_calls.specs.declared.answer.Answer.TheVariants as answers
use Rattle.qs_runs.specs.Logs.{same_side, payload, ping_text}
use Rattle.qs_runs.specs.Events.{Log, happened}

-- what happened, and whether there is room for one event more
pub record Logged : Type 0 where
  pub history : Log
  pub ready : Bool

-- it is stored as the pair of its fields
abbrev pub logged_code : Coded Event → Coded Answer → Coded Logged
logged_code event answer =
    code_by (Log × Bool) (coded× (coded_list (coded× event answer)) coded_bool) (λ l. (l.history, l.ready)) (λ p. record { history = p.0; ready = p.1 }) (λ _. refl)

-- the call made a packet, or claimed a number for one
abbrev pub makes_by : Act → Answer → Bool
makes_by (acts.Make room) (answers.Make (Ok (Some made)) text) = true
makes_by acts.Claim (answers.Claim (Ok number)) = true
makes_by act answer = false

-- the event made a packet of that end, or claimed a number for one
abbrev pub makes : Side → Event → Answer → Bool
makes s event answer = same_side s event.end && makes_by event.act answer

-- the payload of the packet with whose number a call was answered
abbrev pub text_of : Answer → Option (List ℕ)
text_of (answers.Make made text) = Some text.items
text_of (answers.Claim number) = Some ping_text
text_of answer = None

-- the payload stands at that place of the log
abbrev pub IsPlace : List (Event × Answer) → ℕ → List ℕ → Type 0
IsPlace log place text = (x : Event × Answer) × (slice_get log place ≡ Some x) × (text_of x.1 ≡ Some text)

-- and there the payload of that end's packet stands
abbrev pub IsPlaceOf : Side → ℕ → Log → ℕ → Type 0
IsPlaceOf s k log place = (text : List ℕ) × (payload s k (happened log) ≡ Some text) × IsPlace (reverse log) place text

-- the places of payloads in the log, in order
abbrev pub ArePlaces : List (Event × Answer) → List ℕ → List (List ℕ) → Type 0
ArePlaces log [] [] = ⊤
ArePlaces log (place ∷ places) (text ∷ texts) = IsPlace log place text × ArePlaces log places texts
ArePlaces log places texts = ⊥
