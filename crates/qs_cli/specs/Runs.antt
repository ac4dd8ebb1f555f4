-- Of public contracts.
-- What a run of the program answers and writes.
use Rattle.std.specs.Prelude.{◌≡◌, ℕ, List, ◌++◌, codes, decimal, length, map, ◌≤◌, ◌⊎◌, Option, None, Result, Ok, Err, is_some, true, ⊤}
use Rattle.std.specs.Io.KnownBytes.{Appends}
use Rattle.std.specs.List.{list_all}
use Rattle.hex.specs.Hex.{decode_of}
use Rattle.qs_wire.specs.Reading.{reading_of}
use Rattle.qs_calls.specs.declared.settings.Settings.{Settings}
use Rattle.qs_calls.specs.declared.event.Event.{Event}
use Rattle.qs_world.specs.declared.report.Report.{Report}
use Rattle.qs_world.specs.declared.report.PlayFault.{PlayFault}
use Rattle.qs_world.specs.declared.report.PlayFault.TheVariants as faults
use Rattle.qs_script.specs.declared.script.Reason.TheVariants as reasons
use Rattle.qs_script.specs.declared.script.ScriptFault.{ScriptFault}
use Rattle.qs_calls.specs.Events.{fits}
use Rattle.qs_script.specs.Scripts.{script_of, said, reason_number}
use Rattle.qs_world.specs.Plays.{PlayOf}
use Rattle.qs_world.specs.Randoms.{IsRandomScript, seeded}
use Rattle.qs_text.specs.EventText.{script_text}
use Rattle.qs_world.specs.PlayText.{play_text}
use Rattle.qs_cli.specs.declared.status.Status.{Status}
use Rattle.qs_cli.specs.declared.status.Status.TheVariants.{Success, FaultShown, BadUsage, NoMemory, Failed}
use Rattle.qs_text.specs.FrameText.{payload_text}

-- the number that the process ends with
abbrev pub exit_code : Status → ℕ
exit_code Success = 0
exit_code FaultShown = 1
exit_code BadUsage = 2
exit_code NoMemory = 3
exit_code Failed = 3

-- memory was refused, and nothing was written; or the writer failed
abbrev pub ShowsNothing : Option (List ℕ) → Option (List ℕ) → Status → Type 0
ShowsNothing old new answer = ((answer ≡ NoMemory) × (new ≡ old)) ⊎ (answer ≡ Failed)

-- the text was written, and the answer is the status that goes with it; or nothing can be shown
abbrev pub Shows : List ℕ → Status → Option (List ℕ) → Option (List ℕ) → Status → Type 0
Shows text status old new answer = ((answer ≡ status) × Appends old new text) ⊎ ShowsNothing old new answer

-- the word spells a payload in hex
abbrev pub SpellsPayload : List ℕ → List ℕ → Type 0
SpellsPayload word payload = (decode_of word ≡ Ok payload) × (length payload ≤ 65535)

-- the word spells some payload
abbrev pub IsPayload : List ℕ → Type 0
IsPayload word = (payload : List ℕ) × SpellsPayload word payload

-- Without a fault and with one the payload's text was written. Bad usage is answered where the word spells no payload, and nowhere else;
-- then nothing was written, nor was anything where memory was refused. Where the writer failed nothing is said of what was written.
abbrev pub AnswersFrames : Status → List ℕ → Option (List ℕ) → Option (List ℕ) → Type 0
AnswersFrames Success word old new =
    (payload : List ℕ) × SpellsPayload word payload × ((reading_of payload).fault ≡ None) × Appends old new (payload_text payload)
AnswersFrames FaultShown word old new =
    (payload : List ℕ) × SpellsPayload word payload × (is_some (reading_of payload).fault ≡ true) × Appends old new (payload_text payload)
AnswersFrames BadUsage word old new = (IsPayload word → ⊥) × (new ≡ old)
AnswersFrames NoMemory word old new = IsPayload word × (new ≡ old)
AnswersFrames Failed word old new = IsPayload word

-- the line that names the first event whose packet wasn't made
abbrev pub missing_line : ℕ → List ℕ
missing_line event = codes "fault: no such packet at event " ++ decimal event ++ codes "\n"

-- the event whose packet wasn't made was named; or memory was wanting, and nothing was written
abbrev pub ShowsPlayFault : PlayFault → Option (List ℕ) → Option (List ℕ) → Status → Type 0
ShowsPlayFault (faults.NoSuchPacket k) old new answer = Shows (missing_line k) FaultShown old new answer
ShowsPlayFault faults.NoMemory old new answer = (answer ≡ NoMemory) × (new ≡ old)
ShowsPlayFault (faults.Setup setup) old new answer = ⊥

-- the line that names the first line of a script that is no event, and why it is none
abbrev pub script_fault_line : ScriptFault → List ℕ
script_fault_line fault = codes "fault: line " ++ decimal fault.line ++ codes " reason " ++ decimal (reason_number fault.reason) ++ codes "\n"

-- a report that was written, or the status that tells why it wasn't
abbrev pub written : Report → Status → Result Report Status
written report Success = Ok report
written report FaultShown = Err FaultShown
written report BadUsage = Err BadUsage
written report NoMemory = Err NoMemory
written report Failed = Err Failed

-- the status of a run that answers the report that it wrote
abbrev pub status_of : Result Report Status → Status
status_of (Ok report) = Success
status_of (Err status) = status

-- what holds of the answer of such a run, where its status is all that is answered
abbrev pub EndsAs : (Result Report Status → Type 0) → Status → Type 0
EndsAs Answers Success = (report : Report) × Answers (Ok report)
EndsAs Answers FaultShown = Answers (Err FaultShown)
EndsAs Answers BadUsage = Answers (Err BadUsage)
EndsAs Answers NoMemory = Answers (Err NoMemory)
EndsAs Answers Failed = Answers (Err Failed)

-- The text of a report that playing came to was written, or the line that names a packet that wasn't made; where memory was refused
-- nothing was.
abbrev pub AnswersEvents : (Result Report PlayFault → Type 0) → Result Report Status → Option (List ℕ) → Option (List ℕ) → Type 0
AnswersEvents Played (Ok report) old new = Played (Ok report) × Appends old new (play_text report)
AnswersEvents Played (Err FaultShown) old new = (k : ℕ) × Played (Err (faults.NoSuchPacket k)) × Appends old new (missing_line k)
AnswersEvents Played (Err Success) old new = ⊥
AnswersEvents Played (Err BadUsage) old new = ⊥
AnswersEvents Played (Err NoMemory) old new = new ≡ old
AnswersEvents Played (Err Failed) old new = ⊤

-- the events are those that the script says, and their numbers lie in their ranges
abbrev pub IsScriptOf : List ℕ → List Event → Type 0
IsScriptOf script events = (script_of script ≡ Ok (map said events)) × (list_all fits events ≡ true)

-- the fault of a script was named, which isn't want of memory; or nothing can be shown
abbrev pub ShowsScriptFault : ScriptFault → Option (List ℕ) → Option (List ℕ) → Status → Type 0
ShowsScriptFault fault old new answer =
    ((fault.reason ≡ reasons.NoMemory → ⊥) × (answer ≡ FaultShown) × Appends old new (script_fault_line fault)) ⊎ ShowsNothing old new answer

-- the script's first line that is no event was named, with the reason
abbrev pub NamesFault : List ℕ → Option (List ℕ) → Option (List ℕ) → Type 0
NamesFault script old new = (fault : ScriptFault) × (script_of script ≡ Err (fault.line, fault.reason)) × Appends old new (script_fault_line fault)

-- The events of the script were played, or its first line that is no event was named; where memory was refused nothing was written.
abbrev pub AnswersPlay : Result Report Status → Settings → List ℕ → Option (List ℕ) → Option (List ℕ) → Type 0
AnswersPlay (Ok report) s script old new = (events : List Event) × IsScriptOf script events × AnswersEvents (PlayOf s s events) (Ok report) old new
AnswersPlay (Err FaultShown) s script old new =
    ((events : List Event) × IsScriptOf script events × AnswersEvents (PlayOf s s events) (Err FaultShown) old new) ⊎ NamesFault script old new
AnswersPlay (Err Success) s script old new = ⊥
AnswersPlay (Err BadUsage) s script old new = ⊥
AnswersPlay (Err NoMemory) s script old new = new ≡ old
AnswersPlay (Err Failed) s script old new = ⊤

-- The text of so many random events was written; where memory was refused nothing was.
abbrev pub AnswersRandom : Status → ℕ → ℕ → Option (List ℕ) → Option (List ℕ) → Type 0
AnswersRandom Success seed n old new = (events : List Event) × IsRandomScript (seeded seed) n events × Appends old new (script_text events)
AnswersRandom FaultShown seed n old new = ⊥
AnswersRandom BadUsage seed n old new = ⊥
AnswersRandom NoMemory seed n old new = new ≡ old
AnswersRandom Failed seed n old new = ⊤
