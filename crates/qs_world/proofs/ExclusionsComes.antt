-- What the bound of a plain loop excludes.
use Rattle.std.proofs.Common.{◌≡◌, ℕ, zero, suc, ◌+◌, ◌*◌, ◌≤◌, Bool, true, false, is_some, nat_cmp, if◌then◌else◌, List, [], ◌∷◌, Option, None, Some, Result, Ok, Err, refl, sym, ap, ◌∙◌, subst, arith, inl, inr}
use Rattle.std.specs.FinMap as fmap
use Rattle.std.specs.Global.{Vec}
use Rattle.std.proofs.lemmas.Option.{none-some}
use Rattle.qs_ranges.specs.Numbers.{MAX_VARINT}
use Rattle.qs_send.proofs.Outstanding.{carried-empty}
use Rattle.qs_send.specs.declared.piece.Item.TheVariants.{MaxData}
use Rattle.qs_calls.specs.declared.making.MakeFault.TheVariants as making
use Rattle.qs_calls.specs.declared.event.Side.{Side}
use Rattle.qs_calls.specs.declared.event.Side.TheVariants.{A, B}
use Rattle.qs_calls.specs.declared.event.Act.TheVariants as acts
use Rattle.qs_calls.specs.declared.event.Event.{Event}
use Rattle.qs_calls.specs.declared.answer.Answer.{Answer}
use Rattle.qs_calls.specs.declared.answer.Answer.TheVariants as answers
use Rattle.qs_machine.specs.Asking.{GoesBesideAck}
use Rattle.qs_machine.specs.Due.{Sendable}
use Rattle.qs_machine.specs.News.{IsLeast, IsReadable}
use Rattle.qs_machine.specs.SmallEnds.{raised}
use Rattle.qs_machine.specs.EndStep.{Make}
use Rattle.qs_machine.proofs.Counts.{no_lane}
use Rattle.qs_runs.specs.Logs.{other, same_side}
use Rattle.qs_runs.specs.Events.{Log, EventStep, calls}
use Rattle.qs_runs.specs.Worlds.{World}
use Rattle.qs_world.specs.declared.world.draining.Turn.{Turn}
use Rattle.qs_world.specs.declared.world.draining.Turn.TheVariants as turns
use Rattle.qs_world.specs.declared.world.draining.Drained.TheVariants.{UsedUp}
use Rattle.qs_world.specs.Plays.{Played}
use Rattle.qs_world.specs.Draining.{AreIdle, IsOver, next_turn, number_made, just_made, act_of_making, Passes, PlainStep, PlainSteps, DrainStep}
use Rattle.qs_world.specs.ExclusionsComes.{have_more, ComesExclusions}

has_more : GoesBesideAck raised
has_more = (refl, inl (MaxData 5000, ((refl, omega arith), λ covered. elim covered [ inl flies ↦ carried-empty _ flies | inr acked ↦ none-some 5000 acked ])))

busy : AreIdle have_more.ends → ⊥
busy idle = idle.0.0 has_more

no_news : IsLeast (IsReadable raised) 0 None
no_news = record { found = λ n is. absurd (none-some n is); least = λ n low (open_end, (l, there, news)). absurd (none-some l (sym (no_lane n) ∙ there)) }

none_out : (k : ℕ) → k ≤ MAX_VARINT → fmap.contains_key raised.outstanding k ≡ false
none_out k le = ap is_some (fmap.get-empty nat_cmp k)

-- Each end in turn asks for a packet

abbrev side_at : ℕ → Side
side_at zero = A
side_at (suc n) = other (side_at n)

abbrev turn_at : ℕ → Turn
turn_at zero = turns.Lose A
turn_at (suc n) = next_turn (turns.Make (side_at n))

over_from : (s : Side) → (count : ℕ) × Passes count have_more.ends (next_turn (turns.Make s)) (turns.Make (other s))
over_from A = (1, (turns.Lose B, refl, none_out, refl))
over_from B = (3, (turns.Lose A, (turns.Read B, (turns.Read A, refl, no_news, refl), no_news, refl), none_out, refl))

over : (n : ℕ) → (count : ℕ) × Passes count have_more.ends (turn_at n) (turns.Make (side_at n))
over zero = (1, (turns.Lose A, refl, none_out, refl))
over (suc n) = over_from (side_at n)

sendable : Sendable raised
sendable = inr has_more.1

-- and is refused: no text comes of it

module _ (text : Vec ℕ) (none : text.items ≡ []) where
  abbrev refusal : Answer
  refusal = answers.Make (Err making.NoMemory) text

  abbrev log_at : ℕ → Log
  log_at zero = []
  log_at (suc n) = (record { end = side_at n; act = acts.Make 1200 }, refusal) ∷ log_at n

  abbrev at : ℕ → Played
  at n = record { log = log_at n; ends = have_more.ends }

  none_made : (s : Side) (n : ℕ) → just_made s (log_at n) ≡ None
  none_made s zero = refl
  none_made s (suc n) = go (same_side s (side_at n))
    where
      go : (b : Bool) → (if b then number_made refusal else None) ≡ None
      go true = refl
      go false = refl

  asked : (s : Side) → calls s (Make 0 0 1200) (Err making.NoMemory, text.items) ≡ Some (record { end = s; call = Make 0 0 1200; answer = (Err making.NoMemory, []) })
  asked s = ap (λ (bytes : List ℕ). calls s (Make 0 0 1200) (Err making.NoMemory, bytes)) none

  step : (s : Side) (log : Log) → EventStep log have_more.ends (record { end = s; act = acts.Make 1200 }) refusal have_more.ends
  step A log = (record { end = A; call = Make 0 0 1200; answer = (Err making.NoMemory, []) }, asked A, record { step = (sendable, refl, refl); still = refl; may = λ open_end. tt })
  step B log = (record { end = B; call = Make 0 0 1200; answer = (Err making.NoMemory, []) }, asked B, record { step = (sendable, refl, refl); still = refl; may = λ open_end. tt })

  steps : (n : ℕ) → PlainSteps have_more n (turn_at n) (at n)
  steps zero = (refl, refl)
  steps (suc n) =
      let (count, passed) = over n in
      let s = side_at n in
      (turn_at n, turns.Make s, count, at n, steps n, passed, (record { end = s; act = acts.Make 1200 }, refusal, busy, ap (λ o. record { end = s; act = act_of_making o }) (sym (none_made s n)), refl, step s (log_at n), refl))

pub comes_exclusions : ComesExclusions
comes_exclusions =
    record {
      too_many = λ old new a b six fine comes. let few = (comes fine).0 in absurd (omega (arith, few, a, b, six));
      few_rounds = λ old new allowed k wide room a b fine comes. (let few = (comes fine).1 k wide room in omega (arith, few, a, b));
      none_made = λ text. refl;
      one_made = λ made text. refl;
      one_comes = refl;
      in_part = refl;
      again = refl;
      in_whole = refl;
      refused = λ text none n. (at text none n, (n, turn_at n, omega arith, steps text none n, (refl, busy)));
    }
