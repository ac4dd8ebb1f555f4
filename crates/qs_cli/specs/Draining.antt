-- Of public contracts.
-- A script is played, and then both ends are led to rest: what is written.
use Rattle.std.specs.Prelude.{◌≡◌, ℕ, ◌-◌, ◌^◌, List, ◌++◌, codes, Option, Result, Ok, Err, ⊤, ◌⊎◌}
use Rattle.std.specs.Io.KnownBytes.{Appends}
use Rattle.qs_calls.specs.declared.settings.Settings.{Settings}
use Rattle.qs_calls.specs.declared.event.Event.{Event}
use Rattle.qs_world.specs.declared.report.Report.{Report}
use Rattle.qs_world.specs.declared.report.PlayFault.TheVariants.{NoSuchPacket}
use Rattle.qs_world.specs.declared.world.draining.Drained.{Drained}
use Rattle.qs_world.specs.declared.world.draining.Drained.TheVariants.{AtRest, UsedUp}
use Rattle.qs_world.specs.Plays.{PlayOf}
use Rattle.qs_world.specs.Draining.{DrainedPlayOf}
use Rattle.qs_world.specs.PlayText.{play_text}
use Rattle.qs_cli.specs.declared.status.Status.{Status}
use Rattle.qs_cli.specs.declared.status.Status.TheVariants.{Success, FaultShown, BadUsage, NoMemory, Failed}
use Rattle.qs_cli.specs.Runs.{missing_line, IsScriptOf, NamesFault}

-- the most events that lead the ends to rest: as many as a number of the program counts
abbrev pub most_drained : ℕ
most_drained = 2 ^ 64 - 1

-- the last line: whether both ends came to rest
abbrev pub rest_line : Drained → List ℕ
rest_line AtRest = codes "at rest\n"
rest_line UsedUp = codes "not at rest\n"

-- the report of the events and of the plain ones that followed, and the last line
abbrev pub drained_text : Report × Drained → List ℕ
drained_text told = play_text told.0 ++ rest_line told.1

-- That text was written, or the line that names a packet that wasn't made; where memory was refused nothing was.
abbrev pub AnswersDrainedEvents : Result Report Status → Settings → List Event → Option (List ℕ) → Option (List ℕ) → Type 0
AnswersDrainedEvents (Ok report) s events old new =
    (drained : Drained) × DrainedPlayOf s s events most_drained (Ok (report, drained)) × Appends old new (drained_text (report, drained))
AnswersDrainedEvents (Err FaultShown) s events old new = (k : ℕ) × PlayOf s s events (Err (NoSuchPacket k)) × Appends old new (missing_line k)
AnswersDrainedEvents (Err Success) s events old new = ⊥
AnswersDrainedEvents (Err BadUsage) s events old new = ⊥
AnswersDrainedEvents (Err NoMemory) s events old new = new ≡ old
AnswersDrainedEvents (Err Failed) s events old new = ⊤

-- The events of the script were played and both ends led to rest, or the script's first line that is no event was named; where memory was
-- refused nothing was written.
abbrev pub AnswersDrained : Result Report Status → Settings → List ℕ → Option (List ℕ) → Option (List ℕ) → Type 0
AnswersDrained (Ok report) s script old new = (events : List Event) × IsScriptOf script events × AnswersDrainedEvents (Ok report) s events old new
AnswersDrained (Err FaultShown) s script old new =
    ((events : List Event) × IsScriptOf script events × AnswersDrainedEvents (Err FaultShown) s events old new) ⊎ NamesFault script old new
AnswersDrained (Err Success) s script old new = ⊥
AnswersDrained (Err BadUsage) s script old new = ⊥
AnswersDrained (Err NoMemory) s script old new = new ≡ old
AnswersDrained (Err Failed) s script old new = ⊤
