-- Trusted.
-- Events are played: what two ends have come to, and what happened to them. The whole file is ours:
-- RFC 9000 has no runs.
use Rattle.std.specs.Prelude.{◌≡◌, suc, List, [], ◌∷◌, ◌++◌, length, map, reverse, None, Result, Ok, Err, ⊤}
use Rattle.qs_machine.specs.Ends.{End}
use Rattle.qs_calls.specs.declared.settings.Settings.{Settings}
use Rattle.qs_calls.specs.declared.settings.SetupFault.{SetupFault}
use Rattle.qs_calls.specs.declared.event.Side.{Side}
use Rattle.qs_calls.specs.declared.event.Side.TheVariants.{A, B}
use Rattle.qs_calls.specs.declared.event.Act.{Act}
use Rattle.qs_calls.specs.declared.event.Act.TheVariants as acts
use Rattle.qs_calls.specs.declared.event.Event.{Event}
use Rattle.qs_calls.specs.declared.answer.Answer.{Answer}
use Rattle.qs_world.specs.declared.report.Report.{Report}
use Rattle.qs_world.specs.declared.report.PlayFault.{PlayFault}
use Rattle.qs_world.specs.declared.report.PlayFault.TheVariants as faults
use Rattle.qs_runs.specs.Logs.{payload}
use Rattle.qs_runs.specs.Events.{Log, happened, EventStep, EventAgrees, world_made}
use Rattle.qs_runs.specs.Worlds.{World}
use Rattle.qs_runs.specs.Agree.{Agree}
use Rattle.qs_world.specs.Reports.{IsReport}

-- the events of a log, in its order
abbrev pub events_of : List (Event × Answer) → List Event
events_of log = map (λ x. x.0) log

-- Runs

-- A run of events in which each world agrees with what happened until then, and each step agrees; each end was told the other's true
-- limits.
abbrev pub AgreeingRun : Settings → Settings → Log → World → Type 0
AgreeingRun a b [] w = (world_made a b ≡ Ok w) × Agree [] w
AgreeingRun a b (x ∷ log) w =
    (v : World) × AgreeingRun a b log v × EventStep log v x.0 x.1 w × EventAgrees log v x.0 x.1 w × Agree (happened (x ∷ log)) w

-- two ends, and what happened to them, the newest first
pub record Played : Type 0 where
  pub log : Log
  pub ends : World

-- two ends, of which one stands at that side
abbrev pub world_by : Side → End → End → World
world_by A own peer = record { a = own; b = peer }
world_by B own peer = record { a = peer; b = own }

-- these events were played
pub record HasPlayed (a b : Settings) (events : List Event) (p : Played) : Type 0 where
  pub run : AgreeingRun a b p.log p.ends
  pub are : events_of (reverse p.log) ≡ events

-- nothing has happened yet
abbrev pub begun : Result World SetupFault → Result Played SetupFault
begun (Err fault) = Err fault
begun (Ok w) = Ok (record { log = []; ends = w })

-- the act delivers a packet that the end hasn't made
abbrev pub IsMissingBy : Log → Side → Act → Type 0
IsMissingBy log s (acts.Deliver k) = payload s k (happened log) ≡ None
IsMissingBy log s act = ⊥

abbrev pub IsMissing : Log → Event → Type 0
IsMissing log event = IsMissingBy log event.end event.act

-- One more event: it happened, and is logged with its answer; or a packet that wasn't made was to be delivered; or the log found no memory.
abbrev pub PlayStep : {X : Type 0} → Played → Event → Result X PlayFault → Played → Type 0
PlayStep old event (Ok done) new = (answer : Answer) × (new.log ≡ (event, answer) ∷ old.log) × EventStep old.log old.ends event answer new.ends
PlayStep old event (Err (faults.NoSuchPacket k)) new = (new ≡ old) × IsMissing old.log event × (k ≡ suc (length old.log))
PlayStep old event (Err faults.NoMemory) new = (new ≡ old) × (IsMissing old.log event → ⊥)
PlayStep old event (Err (faults.Setup fault)) new = ⊥

-- What comes of playing events: the report of an agreeing run, whose log has these events; or such a run of those before one whose packet
-- wasn't made.
abbrev pub PlayOf : Settings → Settings → List Event → Result Report PlayFault → Type 0
PlayOf a b events (Ok report) =
    (log : Log) × (w : World) × AgreeingRun a b log w × (events_of (reverse log) ≡ events) × IsReport log w report
PlayOf a b events (Err (faults.NoSuchPacket k)) =
    (log : Log) × (w : World) × (before after : List Event) × (event : Event)
    × (events ≡ before ++ event ∷ after) × AgreeingRun a b log w × (events_of (reverse log) ≡ before) × IsMissing log event × (k ≡ suc (length before))
PlayOf a b events (Err (faults.Setup fault)) = world_made a b ≡ Err fault
PlayOf a b events (Err faults.NoMemory) = ⊤

-- the settings of the two ends began the run, and it agrees
abbrev pub HasAgreed : Played → Type 0
HasAgreed p = AgreeingRun p.ends.a.settings p.ends.b.settings p.log p.ends
