-- What happens at one side happens in the world of both.
use Rattle.std.proofs.Common.{◌≡◌, ℕ, zero, suc, false, List, [], ◌∷◌, None, Some, Result, inl, slice_get, refl, ap, subst}
use Rattle.std.specs.List.{AllByRecursion}
use Rattle.std.proofs.lemmas.Option.{none-some, same_Some}
use Rattle.qs_calls.specs.declared.closing.Closing.{Closing}
use Rattle.qs_calls.specs.declared.closing.Received.{Received}
use Rattle.qs_machine.specs.Ends.{End}
use Rattle.qs_machine.specs.EndStep.{Call, Answer as AnswerOf, EndStep, Open, Accept, Write, Finish, Reset, Stop, ReadUpTo, Receive, Make, Lose, Claim}
use Rattle.qs_machine.specs.Plains.{DifferInPlain}
use Rattle.qs_machine.specs.Receiving.{ReceiveStep}
use Rattle.qs_calls.specs.declared.event.Side.{Side}
use Rattle.qs_calls.specs.declared.event.Side.TheVariants.{A, B}
use Rattle.qs_calls.specs.declared.event.Act.{Act}
use Rattle.qs_calls.specs.declared.event.Act.TheVariants as acts
use Rattle.qs_calls.specs.declared.answer.Answer.{Answer}
use Rattle.qs_calls.specs.declared.answer.Answer.TheVariants as answers
use Rattle.qs_runs.specs.Logs.{History, other, payload, made}
use Rattle.qs_runs.specs.Worlds.{World, May, WorldStep}
use Rattle.qs_runs.specs.Events.{Log, calls, happened, EventStep}
use Rattle.qs_runs.specs.Invariant.{HasNoFault}
use Rattle.qs_world.specs.Owners.{is_delivery, OwnStep}
use Rattle.qs_world.specs.Plays.{HasAgreed, world_by}
use Rattle.qs_world.proofs.OneMore.{is_run, keeps}

-- one end makes a call, and the other stays
called : (h : History) (s : Side) (own peer after : End) (call : Call) (answer : AnswerOf call) → EndStep own call answer after → May h (world_by s own peer) s call → WorldStep h (world_by s own peer) (record { end = s; call = call; answer = answer }) (world_by s after peer)
called h A own peer after call answer step may = record { step = step; still = refl; may = λ unclosed. may }
called h B own peer after call answer step may = record { step = step; still = refl; may = λ unclosed. may }

-- an owner does something
pub owner_did : (log : Log) (s : Side) (act : Act) (own peer after : End) (answer : Answer) → is_delivery act ≡ false → OwnStep own act answer after → EventStep log (world_by s own peer) (record { end = s; act = act }) answer (world_by s after peer)
owner_did log s (acts.OpenStream d) own peer after (answers.OpenStream r) is step = (_, refl, called (happened log) s own peer after (Open d) r step tt)
owner_did log s acts.Accept own peer after (answers.Accept r) is step = (_, refl, called (happened log) s own peer after Accept r step tt)
owner_did log s (acts.Write n bytes) own peer after (answers.Write r) is step = (_, refl, called (happened log) s own peer after (Write n bytes.items) r step tt)
owner_did log s (acts.Finish n) own peer after (answers.Finish r) is step = (_, refl, called (happened log) s own peer after (Finish n) r step tt)
owner_did log s (acts.Reset n code) own peer after (answers.Reset r) is step = (_, refl, called (happened log) s own peer after (Reset n code) r step tt)
owner_did log s (acts.Stop n code) own peer after (answers.Stop r) is step = (_, refl, called (happened log) s own peer after (Stop n code) r step tt)
owner_did log s (acts.ReadUpTo n size) own peer after (answers.ReadUpTo r bytes) is step = (_, refl, called (happened log) s own peer after (ReadUpTo n size) (r, bytes.items) step tt)
owner_did log s (acts.Make room) own peer after (answers.Make r text) is step = (_, refl, called (happened log) s own peer after (Make 0 0 room) (r, text.items) step tt)
owner_did log s (acts.Lose k) own peer after (answers.Lose r) is step = (_, refl, called (happened log) s own peer after (Lose k) r step tt)
owner_did log s acts.Claim own peer after (answers.Claim r) is step = (_, refl, called (happened log) s own peer after Claim r step tt)
owner_did log s (acts.Deliver k) own peer after answer is step = absurd (cc is)
owner_did log s act own peer after answer is step = absurd step

-- each payload that was made has no fault, so it comes as it was made
made_fine : (texts : List (List ℕ)) (k : ℕ) (text : List ℕ) → AllByRecursion HasNoFault texts → slice_get texts k ≡ Some text → DifferInPlain text text
made_fine [] k text all is = absurd (none-some text is)
made_fine (t ∷ texts) zero text all is = subst (λ x. DifferInPlain x x) (same_Some t text is) (record { reads = all.0.0; reads_other = all.0.0; same = refl })
made_fine (t ∷ texts) (suc k) text all is = made_fine texts k text all.1 is

-- a payload comes to the other side
came : (h : History) (s : Side) (k : ℕ) (text : List ℕ) (own peer after : End) (result : Result Received Closing) → payload s k h ≡ Some text → DifferInPlain text text → ReceiveStep peer k text result after →
    WorldStep h (world_by s own peer) (record { end = other s; call = Receive k text; answer = result }) (world_by s own after)
came h A k text own peer after result is fine step = record { step = step; still = refl; may = λ unclosed. inl (text, is, fine) }
came h B k text own peer after result is fine step = record { step = step; still = refl; may = λ unclosed. inl (text, is, fine) }

pub delivered : (log : Log) (s : Side) (k : ℕ) (own peer after : End) (result : Result Received Closing) → HasAgreed (record { log = log; ends = world_by s own peer }) →
    ((text : List ℕ) × (payload s k (happened log) ≡ Some text) × ReceiveStep peer k text result after) → EventStep log (world_by s own peer) (record { end = s; act = acts.Deliver k }) (answers.Deliver result) (world_by s own after)
delivered log s k own peer after result agreed (text, is, step) =
    let w : World = world_by s own peer in
    let ok = keeps w.a.settings w.b.settings log w (is_run w.a.settings w.b.settings log w agreed) in (
      record { end = other s; call = Receive k text; answer = result },
      ap (λ o. elim o [ None ↦ None | Some t ↦ calls (other s) (Receive k t) result ]) is,
      came (happened log) s k text own peer after result is (made_fine (made s (happened log)) k text (ok.texts s) is) step,
    )
