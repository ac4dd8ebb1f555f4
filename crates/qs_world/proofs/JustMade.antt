-- A packet that was just made is there to be delivered, and its number has a spelling.
use Rattle.std.proofs.Common.{◌≡◌, ℕ, ◌+◌, ◌≤◌, Bool, true, false, List, [], ◌∷◌, ◌++◌, length, Option, None, Some, is_some, Ok, slice_get, subst, refl, sym, ap, ◌∙◌, arith, if◌then◌else◌, nat_le}
use Rattle.std.proofs.lemmas.Bool.Decides.{nat_tests}
use Rattle.std.proofs.lemmas.List.{length-map}
use Rattle.std.proofs.lemmas.Option.{none-some, same_Some}
use Rattle.qs_ranges.specs.Numbers.{MAX_VARINT}
use Rattle.qs_calls.specs.Events.{fits}
use Rattle.qs_calls.specs.declared.settings.Settings.{Settings}
use Rattle.qs_calls.specs.declared.making.Made.{Made}
use Rattle.qs_calls.specs.declared.making.MakeFault.{MakeFault}
use Rattle.qs_calls.specs.declared.making.MakeFault.TheVariants as making
use Rattle.qs_machine.specs.Ends.{End}
use Rattle.qs_machine.specs.Owner.{first_refusal, refuse_if}
use Rattle.qs_machine.specs.Making.{MakeAt, make_refusal}
use Rattle.qs_calls.specs.declared.event.Side.{Side}
use Rattle.qs_calls.specs.declared.event.Side.TheVariants.{A, B}
use Rattle.qs_calls.specs.declared.event.Act.{Act}
use Rattle.qs_calls.specs.declared.event.Act.TheVariants as acts
use Rattle.qs_calls.specs.declared.answer.Answer.{Answer}
use Rattle.qs_calls.specs.declared.answer.Answer.TheVariants as answers
use Rattle.qs_machine.specs.Plains.{frames_in}
use Rattle.qs_machine.specs.EndStep.{Make}
use Rattle.qs_runs.specs.Logs.{Happening, History, made, payload, same_side}
use Rattle.qs_runs.specs.Events.{Log, call_of, happened, EventStep}
use Rattle.qs_runs.specs.Worlds.{World, end_of, WorldStep}
use Rattle.qs_runs.proofs.Scripts.{made_by, made_more}
use Rattle.qs_runs.proofs.Lists.{slice_get-last}
use Rattle.qs_world.specs.Plays.{AgreeingRun, Played, HasAgreed}
use Rattle.qs_world.specs.Draining.{number_made, just_made}
use Rattle.qs_world.proofs.OneMore.{is_run, keeps}

not_used_up : (closed used : Bool) → first_refusal (refuse_if closed making.Closed) (refuse_if used making.Exhausted) ≡ None → used ≡ false
not_used_up false false e = refl
not_used_up false true e = absurd (none-some _ (sym e))
not_used_up true used e = absurd (none-some _ (sym e))

next_at_most : (e : End) → make_refusal e ≡ None → e.next ≤ MAX_VARINT
next_at_most e none = (let test : nat_le (MAX_VARINT + 1) e.next ≡ false = not_used_up (is_some e.closed) _ none in grind (arith, nat_tests, test))

-- the packet has the next number of an end
abbrev pub IsNumbered : End → ℕ → List (List ℕ) → Type 0
IsNumbered e k texts = (k ≡ e.next) × (k ≤ MAX_VARINT) × (text : List ℕ) × (texts ≡ text ∷ [])

packet_numbered : (o : Option MakeFault) (e new : End) (first delay room : ℕ) (made : Made) (text : List ℕ) (k : ℕ) → make_refusal e ≡ o
    → MakeAt o e first delay room (Ok (Some made)) text new → made.number ≡ k → IsNumbered e k (text ∷ [])
packet_numbered (Some fault) e new first delay room made text k is (answer, none, same) number = absurd (cc answer)
packet_numbered None e new first delay room made text k is step number =
    let next : k ≡ e.next = sym number ∙ step.number in
    (next, rw next (next_at_most e is), text, refl)

pub numbered : (h : History) (v w : World) (s : Side) (act : Act) (answer : Answer) (x : Happening) (k : ℕ) → call_of h s act answer ≡ Some x → WorldStep h v x w → number_made answer ≡ Some k → IsNumbered (end_of v s) k (made_by act answer)
numbered h v w s (acts.Make room) (answers.Make (Ok (Some packet)) text) x k is step number =
    let call : Happening = record { end = s; call = Make 0 0 room; answer = (Ok (Some packet), text.items) } in
    packet_numbered (make_refusal (end_of v s)) _ _ 0 0 room packet text.items k refl (subst (λ y. WorldStep h v y w) (sym (same_Some call x is)) step).step (same_Some _ _ number)
numbered h v w s act (answers.Make (Ok (Some packet)) text) x k is step number = absurd (none-some x is)
numbered h v w s act answer x k is step number = absurd (none-some _ number)

numbered_at : (log : Log) (v w : World) (s t : Side) (act : Act) (answer : Answer) (k : ℕ) → EventStep log v (record { end = t; act = act }) answer w
    → (if same_side s t then number_made answer else None) ≡ Some k → IsNumbered (end_of v s) k (if same_side s t then made_by act answer else [])
numbered_at log v w A A act answer k (x, is, step) number = numbered (happened log) v w A act answer x k is step number
numbered_at log v w B B act answer k (x, is, step) number = numbered (happened log) v w B act answer x k is step number
numbered_at log v w A B act answer k step number = absurd (none-some _ number)
numbered_at log v w B A act answer k step number = absurd (none-some _ number)

there : (a b : Settings) (log : Log) (w : World) (s : Side) (k : ℕ) → AgreeingRun a b log w → just_made s log ≡ Some k → (k ≤ MAX_VARINT) × (payload s k (happened log) ≡ None → ⊥)
there a b [] w s k run is = absurd (none-some _ is)
there a b (x ∷ log) w s k (v, before, step, steps, agree) is =
    let (next, small, text, texts) = numbered_at log v w s x.0.end x.0.act x.1 k step is in
    let mine = ((keeps a b log v (is_run a b log v before)).ends s).packets.count in
    let count : k ≡ length (made s (happened log)) = next ∙ mine ∙ length-map (made s (happened log)) frames_in in
    let found : payload s k (happened (x ∷ log)) ≡ Some text =
    ap (λ ts. slice_get ts k) (made_more s x log ∙ ap (λ ts. made s (happened log) ++ ts) texts) ∙ ap (λ j. slice_get (made s (happened log) ++ text ∷ []) j) count ∙ slice_get-last (made s (happened log)) text in
    (small, λ missing. none-some text (sym missing ∙ found))

pub made_there : (s : Side) (k : ℕ) (p : Played) → HasAgreed p → just_made s p.log ≡ Some k → (k ≤ MAX_VARINT) × (payload s k (happened p.log) ≡ None → ⊥)
made_there s k p agreed is = there p.ends.a.settings p.ends.b.settings p.log p.ends s k agreed is

-- so its delivery fits
pub number_fits : (s : Side) (k : ℕ) (p : Played) → HasAgreed p → just_made s p.log ≡ Some k → fits (record { end = s; act = acts.Deliver k }) ≡ true
number_fits s k p agreed is = (let small = (made_there s k p agreed is).0 in grind (arith, nat_tests, small))
