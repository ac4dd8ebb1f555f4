-- An end that closed stays so; so one that is open was. And a run goes on, trail by trail.
use Rattle.std.proofs.lemmas.Bool.Decides.{nat_tests}
use Rattle.std.proofs.Common.{arith}
use Rattle.std.proofs.Common.{◌≡◌, true, List, [], ◌∷◌, ◌++◌, None, is_some, sym, ap, ◌∙◌, subst, inl, inr}
use Rattle.qs_send.specs.Records.{Among}
use Rattle.qs_machine.specs.Ends.{End}
use Rattle.qs_machine.specs.EndStep.{Call, Answer as CallAnswer, EndStep}
use Rattle.qs_machine.proofs.EveryCall.{Change, changed, Comes, relates}
use Rattle.qs_machine.proofs.Leaves.{acks_leave, put_leaves, frame_leaves}
use Rattle.qs_calls.specs.declared.settings.Settings.{Settings}
use Rattle.qs_runs.specs.Logs.{Happening}
use Rattle.qs_runs.specs.Worlds.{end_of, WorldStep, Run}
use Rattle.qs_runs.proofs.Stays.{each_side}
use Rattle.qs_rest.proofs.FirstLimits.{first_limits_stay}
use Rattle.qs_progress.specs.Laps.{Moment, Trail}
use Rattle.qs_progress.specs.Comes.{BothOpen, IsReached}

abbrev StaysShut : End → End → Type 0
StaysShut e f = is_some e.closed ≡ true → is_some f.closed ≡ true

same_shut : (e f : End) → f.closed ≡ e.closed → StaysShut e f
same_shut e f is shut = ap is_some is ∙ shut

shut_change : (old : End) (call : Call) (c : Change) (e : End) → Comes old call e c → StaysShut e (changed c e)
shut_change old call c e comes shut = grind (arith, nat_tests, same_shut, frame_leaves, changed, acks_leave, put_leaves)

shut_call : (old : End) (call : Call) (answer : CallAnswer call) (new : End) → EndStep old call answer new → StaysShut old new
shut_call old call answer new step = relates StaysShut (λ e shut. shut) (λ e f g x y shut. y (x shut)) old call (shut_change old call) answer new step

open_before : (e f : End) → StaysShut e f → f.closed ≡ None → e.closed ≡ None
open_before e f stays is = grind (arith, nat_tests)

pub trail_open : (Is : Call → Type 0) (ms : List Moment) (old new : Moment) → Trail Is old ms new → BothOpen new.ends → BothOpen old.ends
trail_open Is [] old new is open_end s = subst (λ (m : Moment). BothOpen m.ends) is open_end s
trail_open Is (m ∷ ms) old new ((x, kind, logged, step), rest) open_end s =
    open_before (end_of old.ends s) (end_of m.ends s)
    (each_side StaysShut (λ e shut. shut) old.ends m.ends (λ t call answer made. shut_call (end_of old.ends t) call answer (end_of m.ends t) made) old.log x step s)
    (trail_open Is ms m new rest open_end s)

pub reached : (a b : Settings) (old new : Moment) (x : Happening) → IsReached a b old → new.log ≡ x ∷ old.log → WorldStep old.log old.ends x new.ends → IsReached a b new
reached a b old new x r logged step =
    record { run = subst (λ h. Run a b h new.ends) (sym logged) (old.ends, r.run, step); knows_first = λ s. first_limits_stay a b old.log old.ends new.ends x r.run step s (r.knows_first s) }

-- what is asked of each call of a trail may be less
pub eased : (Is Other : Call → Type 0) → ((call : Call) → Is call → Other call) → (ms : List Moment) (old new : Moment) → Trail Is old ms new → Trail Other old ms new
eased Is Other less [] old new is = is
eased Is Other less (m ∷ ms) old new ((x, kind, logged, step), rest) = ((x, less x.call kind, logged, step), eased Is Other less ms m new rest)

-- trails that follow each other
pub joined : (Is : Call → Type 0) (ms ns : List Moment) (old mid new : Moment) → Trail Is old ms mid → Trail Is mid ns new → Trail Is old (ms ++ ns) new
joined Is [] ns old mid new is rest = subst (λ m. Trail Is m ns new) is rest
joined Is (m ∷ ms) ns old mid new (first, more) rest = (first, joined Is ms ns m mid new more rest)

-- the last moment is one of them
pub last_of : (Is : Call → Type 0) (ms : List Moment) (old new : Moment) → Trail Is old ms new → Among new (old ∷ ms)
last_of Is [] old new is = inl is
last_of Is (m ∷ ms) old new (first, rest) = inr (last_of Is ms m new rest)
