-- What takes place of events over a wire.
use Rattle.std.proofs.Common.{◌≡◌, ℕ, suc, ◌+◌, ◌<◌, List, [], ◌∷◌, ◌++◌, length, take, drop, get_or, reverse, ◌-◌, Bool, Option, Result, Ok, Err, refl, sym, ap, ◌∙◌, subst, inl, inr}
use Rattle.std.proofs.lemmas.List.{take_more, reverse-append}
use Rattle.qs_machine.specs.Examples.{standard}
use Rattle.qs_calls.specs.declared.settings.SetupFault.{SetupFault}
use Rattle.qs_calls.specs.declared.event.Side.{Side}
use Rattle.qs_calls.specs.declared.event.Act.{Act}
use Rattle.qs_calls.specs.declared.event.Act.TheVariants as acts
use Rattle.qs_calls.specs.declared.event.Act.TheVariants.{Lose, Deliver}
use Rattle.qs_calls.specs.declared.event.Event.{Event}
use Rattle.qs_world.proofs.PlayedCopies.{split_at}
use Rattle.qs_world.specs.declared.report.Report.{Report}
use Rattle.qs_world.specs.declared.report.PlayFault.{PlayFault}
use Rattle.qs_world.specs.declared.report.PlayFault.TheVariants as faults
use Rattle.qs_runs.specs.Events.{world_made}
use Rattle.qs_runs.specs.Worlds.{World}
use Rattle.std.proofs.lemmas.Option.{none-some}
use Rattle.qs_world.specs.Copies.{SameAct, SameEvent, IsReportOf}
use Rattle.qs_world.specs.Plays.{AgreeingRun, IsMissing, IsMissingBy, Played, begun}
use Rattle.qs_world.specs.PlayText.{play_text}
use Rattle.qs_world.proofs.PlayedRuns.{played_none}
use Rattle.qs_world.proofs.OneMore.{one_more}
use Rattle.qs_cli.specs.declared.status.Status.{Status}
use Rattle.qs_cli.specs.declared.status.Status.TheVariants.{Success, FaultShown, BadUsage, NoMemory, Failed}
use Rattle.qs_cli.specs.Runs.{Shows, missing_line, written}
use Rattle.qs_cli.proofs.Answered.{by_shown}
use Rattle.qs_cli.specs.Carrying.{Failings, Happens, IsPacketOf, StepsBy, send_failed, Carried, Carries, CarryStep, CarryOf, HasCarried, ShowsWorld, AnswersCarried, counted, wire_line}

-- One event

-- the send failed, and the packet is lost
pub lost_instead : (s : Side) (k : ℕ) (old new : Played) (f g : Failings) (event : Event) (result : Result Bool PlayFault) → event ≡ record { end = s; act = Lose k } → g ≡ send_failed f → StepsBy old event result new → CarryStep old f (record { end = s; act = Deliver k }) result new g
lost_instead s k old new f g event (Ok stranger) is failed (none, happens) = inl (failed, none, subst (λ e. Happens old e new) is happens)
lost_instead s k old new f g event (Err (faults.NoSuchPacket n)) is failed (same, missing, place) = absurd (subst (IsMissing old.log) is missing)
lost_instead s k old new f g event (Err faults.NoMemory) is failed step = tt
lost_instead s k old new f g event (Err (faults.Setup fault)) is failed step = absurd step

-- a packet arrives
pub arrives : (s : Side) (k j : ℕ) (old new : Played) (f g : Failings) (event : Event) (datagram : List ℕ) (result : Result Bool PlayFault) → event ≡ record { end = s; act = Deliver j } → g ≡ f → IsPacketOf s old.log j datagram → StepsBy old event result new
    → CarryStep old f (record { end = s; act = Deliver k }) result new g
arrives s k j old new f g event datagram (Ok stranger) is same packet (none, happens) = inr (inr (inr (same, none, j, subst (λ e. Happens old e new) is happens)))
arrives s k j old new f g event datagram (Err (faults.NoSuchPacket n)) is same packet (stays, missing, place) = absurd (none-some _ (sym (subst (IsMissing old.log) is missing) ∙ packet.3))
arrives s k j old new f g event datagram (Err faults.NoMemory) is same packet step = tt
arrives s k j old new f g event datagram (Err (faults.Setup fault)) is same packet step = absurd step

-- and any other event happens as it was handed in
not_missing : (old : Played) (copy event : Event) → ((k : ℕ) → event.act ≡ Deliver k → ⊥) → SameEvent copy event → IsMissing old.log copy → ⊥
not_missing old copy event other same missing = go copy.act same.1 missing
  where
    go : (act : Act) → SameAct act event.act → IsMissingBy old.log copy.end act → ⊥
    go (Deliver k) is none = other k (sym is)
    go act is none = none

pub as_handed_in : (old new : Played) (f : Failings) (copy event : Event) (result : Result Bool PlayFault) → ((k : ℕ) → event.act ≡ Deliver k → ⊥) → SameEvent copy event → StepsBy old copy result new → CarryStep old f event result new f
as_handed_in old new f copy event (Ok stranger) other same (none, happens) = go event.act refl
  where
    go : (act : Act) → event.act ≡ act → Carries event.end act old f stranger new f
    go (Deliver k) is = absurd (other k is)
    go act is = (refl, none, copy, subst (λ a. SameEvent copy (record { end = event.end; act = a })) is same, happens)
as_handed_in old new f copy event (Err (faults.NoSuchPacket n)) other same (stays, missing, place) = absurd (not_missing old copy event other same missing)
as_handed_in old new f copy event (Err faults.NoMemory) other same step = tt
as_handed_in old new f copy event (Err (faults.Setup fault)) other same step = absurd step

-- Events that were handed in

-- nothing happened yet
pub carried_none : (f : Failings) (p : Played) → Ok p ≡ begun (world_made standard standard) → HasCarried f [] p f 0
carried_none f p is =
    let played = played_none standard standard p is in
    record { run = played.run; carried = (begins (world_made standard standard) is, refl, refl) }
  where
    begins : (made : Result World SetupFault) → Ok p ≡ begun made → p.log ≡ []
    begins (Err fault) e = absurd (cc (e))
    begins (Ok w) e = (let same : record { log = []; ends = w } ≡ p = cc e in ap (λ q. q.log) (sym same))

reverse_last : (events : List Event) (i : ℕ) (event : Event) → i < length events → event ≡ get_or events i event →
    reverse (take (i + 1) events) ≡ event ∷ reverse (take i events)
reverse_last events i event lt is =
    let more : take (i + 1) events ≡ take i events ++ event ∷ [] = take_more events i event lt ∙ ap (λ e. take i events ++ e ∷ []) (sym is) in
    ap reverse more ∙ reverse-append (take i events) (event ∷ [])

-- the run goes on with what happens
runs_on : (old new : Played) (event : Event) → AgreeingRun standard standard old.log old.ends → Happens old event new → AgreeingRun standard standard new.log new.ends
runs_on old new event run (answer, log, step) =
    subst (λ h. AgreeingRun standard standard h new.ends) (sym log) (one_more standard standard old.log old.ends new.ends event answer run step)

-- whatever an event comes to, the run goes on
carries_on : (s : Side) (act : Act) (old new : Played) (f g : Failings) (stranger : Bool) → AgreeingRun standard standard old.log old.ends
    → Carries s act old f stranger new g → AgreeingRun standard standard new.log new.ends
carries_on s (Deliver k) old new f g stranger run (inl (failed, none, happens)) = runs_on old new _ run happens
carries_on s (Deliver k) old new f g stranger run (inr (inl (failed, none, same))) = subst (λ (q : Played). AgreeingRun standard standard q.log q.ends) (sym same) run
carries_on s (Deliver k) old new f g stranger run (inr (inr (inl (failed, one, same)))) = subst (λ (q : Played). AgreeingRun standard standard q.log q.ends) (sym same) run
carries_on s (Deliver k) old new f g stranger run (inr (inr (inr (failed, none, j, happens)))) = runs_on old new _ run happens
carries_on s (acts.OpenStream d) old new f g stranger run (failed, none, placed, same, happens) = runs_on old new placed run happens
carries_on s acts.Accept old new f g stranger run (failed, none, placed, same, happens) = runs_on old new placed run happens
carries_on s acts.Claim old new f g stranger run (failed, none, placed, same, happens) = runs_on old new placed run happens
carries_on s (acts.Write n bytes) old new f g stranger run (failed, none, placed, same, happens) = runs_on old new placed run happens
carries_on s (acts.Finish n) old new f g stranger run (failed, none, placed, same, happens) = runs_on old new placed run happens
carries_on s (acts.Reset n code) old new f g stranger run (failed, none, placed, same, happens) = runs_on old new placed run happens
carries_on s (acts.Stop n code) old new f g stranger run (failed, none, placed, same, happens) = runs_on old new placed run happens
carries_on s (acts.ReadUpTo n size) old new f g stranger run (failed, none, placed, same, happens) = runs_on old new placed run happens
carries_on s (acts.Make room) old new f g stranger run (failed, none, placed, same, happens) = runs_on old new placed run happens
carries_on s (acts.Lose k) old new f g stranger run (failed, none, placed, same, happens) = runs_on old new placed run happens

-- one event more
pub carried_more : (before mid after : Failings) (events : List Event) (i : ℕ) (event : Event) (stranger : Bool) (n : ℕ) (old new : Played)
    → i < length events → event ≡ get_or events i event
    → HasCarried before (take i events) old mid n → CarryStep old mid event (Ok stranger) new after → HasCarried before (take (i + 1) events) new after (counted stranger n)
carried_more before mid after events i event stranger n old new lt is had step =
    let carried : Carried before (event ∷ reverse (take i events)) new after (counted stranger n) = (old, mid, n, stranger, had.carried, step, refl) in
    record {
      run = carries_on event.end event.act old new mid after stranger had.run step;
      carried = subst (λ es. Carried before es new after (counted stranger n)) (sym (reverse_last events i event lt is)) carried;
    }

-- the events stop at one
pub carrying_stops : (before mid after : Failings) (events : List Event) (i : ℕ) (event : Event) (n : ℕ) (fault : PlayFault) (old new : Played)
    → i < length events → event ≡ get_or events i event
    → HasCarried before (take i events) old mid n → CarryStep old mid event (Err fault) new after → CarryOf before events (Err fault) new after
carrying_stops before mid after events i event n (faults.NoSuchPacket k) old new lt is had (same, still, missing, place) =
    let all : events ≡ take i events ++ event ∷ drop (suc i) events = split_at events i event lt ∙ ap (λ e. take i events ++ e ∷ drop (suc i) events) (sym is) in
    let stops : CarryOf before events (Err (faults.NoSuchPacket k)) old mid = (take i events, drop (suc i) events, event, n, all, had, missing, place) in
    subst (CarryOf before events (Err (faults.NoSuchPacket k)) new) (sym still) (subst (λ q. CarryOf before events (Err (faults.NoSuchPacket k)) q mid) (sym same) stops)
carrying_stops before mid after events i event n faults.NoMemory old new lt is had step = tt
carrying_stops before mid after events i event n (faults.Setup fault) old new lt is had step = step

-- What was written

-- a report of the world was written
pub shown_world : (answer : Result Report Status) (status : Status) (p : Played) (report : Report) (failures strangers : ℕ) (old new : Option (List ℕ)) → IsReportOf p report →
    Shows (play_text report ++ wire_line failures strangers) Success old new status → answer ≡ written report status → ShowsWorld answer p failures strangers old new
shown_world answer status p report failures strangers old new is shown same =
    subst (λ a. ShowsWorld a p failures strangers old new) (sym same)
    (by_shown (play_text report ++ wire_line failures strangers) Success status old new (λ a. ShowsWorld (written report a) p failures strangers old new) shown (λ text. (is, text))
    (λ kept. kept) tt)

-- what took place of the events was shown
pub answered_world : (answer : Result Report Status) (events : List Event) (p : Played) (before after : Failings) (failures strangers : ℕ) (old new : Option (List ℕ)) →
    HasCarried before events p after strangers → failures ≡ after.calls - before.calls → ShowsWorld answer p failures strangers old new → AnswersCarried answer events before after old new
answered_world (Ok report) events p before after failures strangers old new carried rise shown = (p, strangers, carried, subst (λ n. ShowsWorld (Ok report) p n strangers old new) rise shown)
answered_world (Err Success) events p before after failures strangers old new carried rise shown = shown
answered_world (Err FaultShown) events p before after failures strangers old new carried rise shown = absurd (shown)
answered_world (Err BadUsage) events p before after failures strangers old new carried rise shown = shown
answered_world (Err NoMemory) events p before after failures strangers old new carried rise shown = shown
answered_world (Err Failed) events p before after failures strangers old new carried rise shown = tt

-- a packet that wasn't made was named
pub answered_missing : (status : Status) (events : List Event) (p : Played) (k : ℕ) (before after : Failings) (old new : Option (List ℕ)) →
    CarryOf before events (Err (faults.NoSuchPacket k)) p after → Shows (missing_line k) FaultShown old new status → AnswersCarried (Err status) events before after old new
answered_missing status events p k before after old new stops shown =
    by_shown (missing_line k) FaultShown status old new (λ a. AnswersCarried (Err a) events before after old new) shown (λ text. (k, p, stops, text)) (λ same. same) tt
