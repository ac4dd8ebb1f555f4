-- What runs answer whose ends are led to rest.
use Rattle.std.proofs.Common.{◌≡◌, ℕ, List, Option, Result, Ok, Err, inl, inr, sym, subst}
use Rattle.qs_calls.specs.declared.settings.Settings.{Settings}
use Rattle.qs_calls.specs.declared.event.Event.{Event}
use Rattle.qs_world.specs.declared.report.Report.{Report}
use Rattle.qs_world.specs.declared.report.PlayFault.TheVariants.{NoSuchPacket}
use Rattle.qs_script.specs.declared.script.ScriptFault.{ScriptFault}
use Rattle.qs_world.specs.declared.world.draining.Drained.{Drained}
use Rattle.qs_script.specs.Scripts.{IsFaultOf}
use Rattle.qs_world.specs.Plays.{PlayOf}
use Rattle.qs_world.specs.Draining.{DrainedPlayOf}
use Rattle.qs_cli.specs.declared.status.Status.{Status}
use Rattle.qs_cli.specs.declared.status.Status.TheVariants.{Success, FaultShown, BadUsage, NoMemory, Failed}
use Rattle.qs_cli.specs.Runs.{IsScriptOf, Shows, ShowsScriptFault, missing_line, written}
use Rattle.qs_cli.specs.Draining.{AnswersDrained, AnswersDrainedEvents, drained_text, most_drained}
use Rattle.qs_cli.proofs.Answered.{by_shown}

-- a script is answered as its events are
pub drained_answer : (answer : Result Report Status) (s : Settings) (script : List ℕ) (events : List Event) (old new : Option (List ℕ))
    → IsScriptOf script events → AnswersDrainedEvents answer s events old new → AnswersDrained answer s script old new
drained_answer (Ok report) s script events old new is shown = (events, is, shown)
drained_answer (Err FaultShown) s script events old new is shown = inl (events, is, shown)
drained_answer (Err Success) s script events old new is shown = shown
drained_answer (Err BadUsage) s script events old new is shown = shown
drained_answer (Err NoMemory) s script events old new is shown = shown
drained_answer (Err Failed) s script events old new is shown = tt

-- the first line that is no event was named
pub fault_drained : (status : Status) (s : Settings) (script : List ℕ) (fault : ScriptFault) (old new : Option (List ℕ))
    → IsFaultOf script fault → ShowsScriptFault fault old new status → AnswersDrained (Err status) s script old new
fault_drained status s script fault old new (inl is) (inl (other, same, text)) = subst (λ a. AnswersDrained (Err a) s script old new) (sym same) (inr (fault, is, text))
fault_drained status s script fault old new (inr out) (inl (other, same, text)) = absurd (other out.0)
fault_drained status s script fault old new is (inr (inl (same, none))) = subst (λ a. AnswersDrained (Err a) s script old new) (sym same) none
fault_drained status s script fault old new is (inr (inr same)) = subst (λ a. AnswersDrained (Err a) s script old new) (sym same) tt

-- a report of the events and of those that led to rest was written
pub drained_report : (answer : Result Report Status) (status : Status) (s : Settings) (events : List Event) (report : Report) (drained : Drained) (old new : Option (List ℕ))
    → DrainedPlayOf s s events most_drained (Ok (report, drained)) → Shows (drained_text (report, drained)) Success old new status → answer ≡ written report status
    → AnswersDrainedEvents answer s events old new
drained_report answer status s events report drained old new played shown is =
    subst (λ a. AnswersDrainedEvents a s events old new) (sym is)
    (by_shown (drained_text (report, drained)) Success status old new (λ a. AnswersDrainedEvents (written report a) s events old new) shown (λ text. (drained, played, text))
    (λ same. same) tt)

-- a packet that wasn't made was named
pub drained_none : (status : Status) (s : Settings) (events : List Event) (k : ℕ) (old new : Option (List ℕ))
    → PlayOf s s events (Err (NoSuchPacket k)) → Shows (missing_line k) FaultShown old new status → AnswersDrainedEvents (Err status) s events old new
drained_none status s events k old new stops shown =
    by_shown (missing_line k) FaultShown status old new (λ a. AnswersDrainedEvents (Err a) s events old new) shown (λ text. (k, stops, text)) (λ same. same) tt
