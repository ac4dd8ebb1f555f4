-- Runs that agree, event by event, and what playing events comes to.
use Rattle.std.proofs.Common.{◌≡◌, suc, true, List, [], ◌∷◌, ◌++◌, length, reverse, Result, Ok, Err, IfOk, IfErr, refl, sym, ap, ◌∙◌, subst, arith}
use Rattle.std.specs.Prelude.{⊤}
use Rattle.std.specs.List.{list_all}
use Rattle.std.proofs.lemmas.Bool.{and_parts}
use Rattle.std.proofs.lemmas.List.{length-reverse}
use Rattle.std.proofs.lemmas.Grind.{reverse_onto}
use Rattle.qs_calls.specs.declared.settings.Settings.{Settings}
use Rattle.qs_calls.specs.declared.settings.SetupFault.{SetupFault}
use Rattle.qs_calls.specs.declared.event.Event.{Event}
use Rattle.qs_calls.specs.declared.answer.Answer.{Answer}
use Rattle.qs_world.specs.declared.report.Report.{Report}
use Rattle.qs_world.specs.declared.report.PlayFault.{PlayFault}
use Rattle.qs_world.specs.declared.report.PlayFault.TheVariants as faults
use Rattle.qs_calls.specs.Events.{fits}
use Rattle.qs_runs.specs.Events.{Log, world_made}
use Rattle.qs_runs.specs.Worlds.{World}
use Rattle.qs_world.specs.Reports.{IsReport}
use Rattle.qs_world.specs.Plays.{events_of, AgreeingRun, Played, HasPlayed, begun, PlayStep, PlayOf}
use Rattle.qs_world.proofs.OneMore.{run_agrees, one_more}

-- Runs

agreeing_start : (a b : Settings) (w : World) → world_made a b ≡ Ok w → AgreeingRun a b [] w
agreeing_start a b w is = run_agrees a b [] w is

-- Events

-- of events that fit the next one does
pub next_fits : (seen left : List Event) (event : Event) → list_all fits (seen ++ event ∷ left) ≡ true → fits event ≡ true
next_fits [] left event all = (and_parts (fits event) (list_all fits left) all).0
next_fits (x ∷ seen) left event all = next_fits seen left event (and_parts (fits x) (list_all fits (seen ++ event ∷ left)) all).1

are_push : (xs : List (Event × Answer)) (x : Event × Answer) → events_of (xs ++ x ∷ []) ≡ events_of xs ++ x.0 ∷ []
are_push [] x = refl
are_push (y ∷ xs) x = ap (λ l. y.0 ∷ l) (are_push xs x)

are_more : (h : Log) (events : List Event) (event : Event) (answer : Answer) → events_of (reverse h) ≡ events → events_of (reverse ((event, answer) ∷ h)) ≡ events ++ event ∷ []
are_more h events event answer are =
    let log : reverse ((event, answer) ∷ h) ≡ reverse h ++ (event, answer) ∷ [] = reverse_onto h (event, answer) [] in
    ap events_of log ∙ are_push (reverse h) (event, answer) ∙ ap (λ l. l ++ event ∷ []) are

are_count : (xs : List (Event × Answer)) → length (events_of xs) ≡ length xs
are_count [] = refl
are_count (y ∷ xs) = ap suc (are_count xs)

-- What is played

pub played_none : (a b : Settings) (p : Played) → Ok p ≡ begun (world_made a b) → HasPlayed a b [] p
played_none a b p is = go (world_made a b) refl is
  where
    go : (made : Result World SetupFault) → world_made a b ≡ made → Ok p ≡ begun made → HasPlayed a b [] p
    go (Err fault) e is = absurd (cc (is))
    go (Ok w) e is = (let same : record { log = []; ends = w } ≡ p = cc is in subst (HasPlayed a b []) same (record { run = agreeing_start a b w e; are = refl }))

pub played_more : (a b : Settings) (events : List Event) (event : Event) (old new : Played) →
    HasPlayed a b events old → PlayStep {X = ⊤} old event (Ok tt) new → HasPlayed a b (events ++ event ∷ []) new
played_more a b events event old new played (answer, log, step) =
    let run : AgreeingRun a b ((event, answer) ∷ old.log) new.ends = one_more a b old.log old.ends new.ends event answer played.run step in
    let are = are_more old.log events event answer played.are in
    record { run = subst (λ h. AgreeingRun a b h new.ends) (sym log) run; are = subst (λ h. events_of (reverse h) ≡ events ++ event ∷ []) (sym log) are }

pub play_stops : (a b : Settings) (all seen left : List Event) (event : Event) (fault : PlayFault) (old new : Played) → all ≡ seen ++ event ∷ left →
    HasPlayed a b seen old → PlayStep {X = ⊤} old event (Err fault) new → PlayOf a b all (Err fault)
play_stops a b all seen left event (faults.NoSuchPacket k) old new is played (stays, missing, place) =
    let count : length old.log ≡ length seen = sym (length-reverse old.log) ∙ sym (are_count (reverse old.log)) ∙ ap length played.are in
    (old.log, old.ends, seen, left, event, is, played.run, played.are, missing, place ∙ ap suc count)
play_stops a b all seen left event faults.NoMemory old new is played step = tt
play_stops a b all seen left event (faults.Setup fault) old new is played step = absurd step

pub play_ends : (a b : Settings) (events : List Event) (p : Played) (result : Result Report PlayFault) → HasPlayed a b events p →
    IfOk result (IsReport p.log p.ends) → IfErr result (λ fault. fault ≡ faults.NoMemory) → PlayOf a b events result
play_ends a b events p (Ok report) played ok err = (p.log, p.ends, played.run, played.are, ok)
play_ends a b events p (Err fault) played ok err = subst (λ f. PlayOf a b events (Err f)) (sym err) tt

-- what is left where an iterator has no more
pub nothing_left : (xs : List Event) → length xs ≡ 0 → xs ≡ []
nothing_left [] h = refl
nothing_left (x ∷ xs) h = absurd (omega arith)
