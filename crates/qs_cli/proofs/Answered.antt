-- What runs answer.
use Rattle.std.proofs.Common.{◌≡◌, ℕ, ◌/◌, ◌%◌, ◌<◌, ◌≤◌, List, length, Option, Some, None, Result, Ok, Err, true, false, inl, inr, refl, sym, ◌∙◌, subst, arith}
use Rattle.std.specs.Io.KnownBytes.{Appends}
use Rattle.std.specs.List.{list_all}
use Rattle.std.proofs.lemmas.Bool.Decides.{nat_tests}
use Rattle.std.proofs.lemmas.List.Sums.{list_all-from_AllPass}
use Rattle.hex.specs.Hex.{is_hex_digit}
use Rattle.hex.proofs.HexLemmas.{decode_of-ok}
use Rattle.qs_calls.specs.declared.settings.Settings.{Settings}
use Rattle.qs_calls.specs.declared.event.Event.{Event}
use Rattle.qs_world.specs.declared.report.Report.{Report}
use Rattle.qs_calls.specs.declared.settings.SetupFault.{SetupFault}
use Rattle.qs_calls.specs.Settings.{are_in_range, are_spellable, are_countable, limits_of, setup_fault}
use Rattle.qs_machine.specs.Ends.{End, end_unless}
use Rattle.qs_runs.specs.Worlds.{both_made}
use Rattle.qs_world.specs.declared.report.PlayFault.{PlayFault}
use Rattle.qs_world.specs.declared.report.PlayFault.TheVariants as faults
use Rattle.qs_script.specs.declared.script.ScriptFault.{ScriptFault}
use Rattle.qs_script.specs.Scripts.{IsFaultOf}
use Rattle.qs_world.specs.Plays.{PlayOf}
use Rattle.qs_text.specs.EventText.{script_text}
use Rattle.qs_world.specs.PlayText.{play_text}
use Rattle.qs_world.specs.Randoms.{IsRandomScript, seeded}
use Rattle.qs_script.proofs.ScriptDigits.{decodes, hex_even}
use Rattle.qs_cli.specs.declared.status.Status.{Status}
use Rattle.qs_cli.specs.declared.status.Status.TheVariants.{Success, FaultShown, BadUsage, NoMemory, Failed}
use Rattle.qs_cli.specs.Runs.{AnswersEvents, AnswersPlay, AnswersRandom, EndsAs, IsPayload, IsScriptOf, Shows, ShowsPlayFault, ShowsScriptFault, missing_line, status_of, written}
use Rattle.qs_cli.specs.Carrying.{Failings, AnswersCarried, AnswersUdp}

-- What is so of the text that was written, of want of memory and of a writer that failed is so of the answer.
pub by_shown : (text : List ℕ) (status answer : Status) (old new : Option (List ℕ)) (P : Status → Type 0)
    → Shows text status old new answer → (Appends old new text → P status) → (new ≡ old → P NoMemory) → P Failed → P answer
by_shown text status answer old new P (inl (is, there)) done none failed = subst P (sym is) (done there)
by_shown text status answer old new P (inr (inl (is, same))) done none failed = subst P (sym is) (none same)
by_shown text status answer old new P (inr (inr is)) done none failed = subst P (sym is) failed

-- a script is answered as its events are
pub events_answer : (answer : Result Report Status) (s : Settings) (script : List ℕ) (events : List Event) (old new : Option (List ℕ))
    → IsScriptOf script events → AnswersEvents (PlayOf s s events) answer old new → AnswersPlay answer s script old new
events_answer (Ok report) s script events old new is shown = (events, is, shown)
events_answer (Err FaultShown) s script events old new is shown = inl (events, is, shown)
events_answer (Err Success) s script events old new is shown = shown
events_answer (Err BadUsage) s script events old new is shown = shown
events_answer (Err NoMemory) s script events old new is shown = shown
events_answer (Err Failed) s script events old new is shown = tt

-- and so is one over a wire
pub carried_answer : (answer : Result Report Status) (script : List ℕ) (events : List Event) (before after : Failings) (old new : Option (List ℕ))
    → IsScriptOf script events → AnswersCarried answer events before after old new → AnswersUdp answer script before after old new
carried_answer (Ok report) script events before after old new is shown = (events, is, shown)
carried_answer (Err FaultShown) script events before after old new is shown = inl (events, is, shown)
carried_answer (Err Success) script events before after old new is shown = shown
carried_answer (Err BadUsage) script events before after old new is shown = shown
carried_answer (Err NoMemory) script events before after old new is shown = shown
carried_answer (Err Failed) script events before after old new is shown = tt

-- the first line that is no event was named
pub fault_answer : (status : Status) (s : Settings) (script : List ℕ) (fault : ScriptFault) (old new : Option (List ℕ))
    → IsFaultOf script fault → ShowsScriptFault fault old new status → AnswersPlay (Err status) s script old new
fault_answer status s script fault old new (inl is) (inl (other, same, text)) = subst (λ a. AnswersPlay (Err a) s script old new) (sym same) (inr (fault, is, text))
fault_answer status s script fault old new (inr out) (inl (other, same, text)) = absurd (other out.0)
fault_answer status s script fault old new is (inr (inl (same, none))) = subst (λ a. AnswersPlay (Err a) s script old new) (sym same) none
fault_answer status s script fault old new is (inr (inr same)) = subst (λ a. AnswersPlay (Err a) s script old new) (sym same) tt

-- and so it was over a wire, of which no call was made
pub fault_carried : (status : Status) (script : List ℕ) (fault : ScriptFault) (before after : Failings) (old new : Option (List ℕ))
    → IsFaultOf script fault → ShowsScriptFault fault old new status → AnswersUdp (Err status) script before after old new
fault_carried status script fault before after old new (inl is) (inl (other, same, text)) = subst (λ a. AnswersUdp (Err a) script before after old new) (sym same) (inr (fault, is, text))
fault_carried status script fault before after old new (inr out) (inl (other, same, text)) = absurd (other out.0)
fault_carried status script fault before after old new is (inr (inl (same, none))) = subst (λ a. AnswersUdp (Err a) script before after old new) (sym same) none
fault_carried status script fault before after old new is (inr (inr same)) = subst (λ a. AnswersUdp (Err a) script before after old new) (sym same) tt

-- what was played
module _ (Played : Result Report PlayFault → Type 0) where
  -- a report of it was written
  pub answered_report : (answer : Result Report Status) (status : Status) (report : Report) (old new : Option (List ℕ))
      → Played (Ok report) → Shows (play_text report) Success old new status → answer ≡ written report status → AnswersEvents Played answer old new
  answered_report answer status report old new played shown is =
      subst (λ a. AnswersEvents Played a old new) (sym is)
      (by_shown (play_text report) Success status old new (λ a. AnswersEvents Played (written report a) old new) shown (λ text. (played, text)) (λ same. same) tt)

  -- a packet that wasn't made was named
  answered_none : (status : Status) (k : ℕ) (old new : Option (List ℕ))
      → Played (Err (faults.NoSuchPacket k)) → Shows (missing_line k) FaultShown old new status → AnswersEvents Played (Err status) old new
  answered_none status k old new stops shown =
      by_shown (missing_line k) FaultShown status old new (λ a. AnswersEvents Played (Err a) old new) shown (λ text. (k, stops, text)) (λ same. same) tt

  -- or want of memory answered
  pub answered_fault : (status : Status) (fault : PlayFault) (old new : Option (List ℕ))
      → Played (Err fault) → ShowsPlayFault fault old new status → AnswersEvents Played (Err status) old new
  answered_fault status (faults.NoSuchPacket k) old new stops shown = answered_none status k old new stops shown
  answered_fault status faults.NoMemory old new stops (is, same) = subst (λ a. AnswersEvents Played (Err a) old new) (sym is) same
  answered_fault status (faults.Setup setup) old new stops shown = absurd shown

  -- what holds of the one result that was shown
  pub answered_by : (played : Result Report PlayFault) (answer : Result Report Status) (old new : Option (List ℕ))
      → Played played → AnswersEvents (λ r. r ≡ played) answer old new → AnswersEvents Played answer old new
  answered_by played (Ok report) old new is (same, text) = (subst Played (sym same) is, text)
  answered_by played (Err FaultShown) old new is (k, same, text) = (k, subst Played (sym same) is, text)
  answered_by played (Err Success) old new is shown = shown
  answered_by played (Err BadUsage) old new is shown = shown
  answered_by played (Err NoMemory) old new is shown = shown
  answered_by played (Err Failed) old new is shown = tt

-- between ends of settings in their ranges no fault is that of the settings
pub no_setup : (s : Settings) (events : List Event) (played : Result Report PlayFault) → are_in_range s ≡ true → PlayOf s s events played
    → (fault : SetupFault) → played ≡ Err (faults.Setup fault) → ⊥
no_setup s events played range is fault same =
    go fault (setup_fault s (limits_of s)) _ _ (no_fault s range) (subst (PlayOf s s events) same is)
  where
    no_fault : (s : Settings) → are_in_range s ≡ true → setup_fault s (limits_of s) ≡ None
    no_fault s range =
        let spelled : are_spellable (limits_of s) ≡ true = grind (arith, nat_tests, range) in
        let counted : are_countable (limits_of s) ≡ true = grind (arith, nat_tests, range) in
        rw (range, spelled, counted) refl

    go : (fault : SetupFault) (o : Option SetupFault) (x y : End) → o ≡ None → both_made (end_unless o x) (end_unless o y) ≡ Err fault → ⊥
    go fault None x y none e = absurd (cc e)
    go fault (Some other) x y none e = absurd (cc none)

-- the status of what is so of an answer
pub ends_as : (Answers : Result Report Status → Type 0) (answer : Result Report Status) (status : Status)
    → (Answers (Err Success) → ⊥) → status ≡ status_of answer → Answers answer → EndsAs Answers status
ends_as Answers (Ok report) status not is h = subst (EndsAs Answers) (sym is) (report, h)
ends_as Answers (Err Success) status not is h = absurd (not h)
ends_as Answers (Err FaultShown) status not is h = subst (EndsAs Answers) (sym is) h
ends_as Answers (Err BadUsage) status not is h = subst (EndsAs Answers) (sym is) h
ends_as Answers (Err NoMemory) status not is h = subst (EndsAs Answers) (sym is) h
ends_as Answers (Err Failed) status not is h = subst (EndsAs Answers) (sym is) h

-- random events were written
pub answered_random : (answer : Status) (seed n : ℕ) (events : List Event) (text : List ℕ) (old new : Option (List ℕ))
    → IsRandomScript (seeded seed) n events → text ≡ script_text events → Shows text Success old new answer → AnswersRandom answer seed n old new
answered_random answer seed n events text old new drawn is shown =
    by_shown text Success answer old new (λ a. AnswersRandom a seed n old new) shown (λ there. (events, drawn, subst (Appends old new) is there)) (λ same. same) tt

-- Payloads in hex

-- as many hex digits as a payload has are one
pub spelled : (w : List ℕ) → length w % 2 ≡ 0 → length w / 2 ≤ 65535 → list_all is_hex_digit w ≡ true → IsPayload w
spelled w even short all =
    let d = decodes w (sym (hex_even w even) ∙ all) in
    (d.0, (d.1, omega (arith, d.2, short)))

pub odd_spells_none : (w : List ℕ) → (length w % 2 ≡ 0 → ⊥) → IsPayload w → ⊥
odd_spells_none w odd (payload, (is, short)) = odd (decode_of-ok w payload is).0

pub long_spells_none : (w : List ℕ) → 65535 < length w / 2 → IsPayload w → ⊥
long_spells_none w long (payload, (is, short)) = omega (arith, long, short, (decode_of-ok w payload is).2)

pub other_spells_none : (w : List ℕ) → list_all is_hex_digit w ≡ false → IsPayload w → ⊥
other_spells_none w other (payload, (is, short)) = absurd (cc (other, list_all-from_AllPass is_hex_digit w (decode_of-ok w payload is).1))
