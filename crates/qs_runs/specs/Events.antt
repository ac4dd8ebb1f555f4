-- Trusted.
-- The events of scripts as calls of two ends. The whole file is ours: RFC 9000 has no scripts.
use Rattle.std.specs.Prelude.{◌≡◌, List, [], ◌∷◌, Option, None, Some, Result, Ok}
use Rattle.qs_wire.specs.declared.stream_id.Role.TheVariants.{Client, Server}
use Rattle.qs_calls.specs.Settings.{limits_of}
use Rattle.qs_calls.specs.declared.settings.Settings.{Settings}
use Rattle.qs_calls.specs.declared.settings.SetupFault.{SetupFault}
use Rattle.qs_calls.specs.declared.event.Side.{Side}
use Rattle.qs_calls.specs.declared.event.Act.{Act}
use Rattle.qs_calls.specs.declared.event.Act.TheVariants as acts
use Rattle.qs_calls.specs.declared.event.Event.{Event}
use Rattle.qs_calls.specs.declared.answer.Answer.{Answer}
use Rattle.qs_calls.specs.declared.answer.Answer.TheVariants as answers
use Rattle.qs_machine.specs.Ends.{end_made}
use Rattle.qs_machine.specs.EndStep.{Call, Open, Accept, Write, Finish, Reset, Stop, ReadUpTo, Receive, Make, Lose, Claim, Answer as AnswerOf}
use Rattle.qs_runs.specs.Logs.{Happening, History, other, payload}
use Rattle.qs_runs.specs.Worlds.{World, WorldStep, both_made}
use Rattle.qs_runs.specs.Agree.{StepAgrees}

-- the events of a script, with their answers, the newest first
abbrev pub Log : Type 0
Log = List (Event × Answer)

abbrev pub calls : Side → (call : Call) → AnswerOf call → Option Happening
calls s call answer = Some (record { end = s; call = call; answer = answer })

-- The call that an event is, where all this happened before. A packet is made from stream 0 on, with a delay of 0; a delivery is the other
-- end's `receive` of the payload, where one was made; no other answer goes with an act.
abbrev pub call_of : History → Side → Act → Answer → Option Happening
call_of h s (acts.OpenStream dir) (answers.OpenStream r) = calls s (Open dir) r
call_of h s acts.Accept (answers.Accept r) = calls s Accept r
call_of h s (acts.Write n bytes) (answers.Write r) = calls s (Write n bytes.items) r
call_of h s (acts.Finish n) (answers.Finish r) = calls s (Finish n) r
call_of h s (acts.Reset n code) (answers.Reset r) = calls s (Reset n code) r
call_of h s (acts.Stop n code) (answers.Stop r) = calls s (Stop n code) r
call_of h s (acts.ReadUpTo n size) (answers.ReadUpTo r bytes) = calls s (ReadUpTo n size) (r, bytes.items)
call_of h s (acts.Make room) (answers.Make r text) = calls s (Make 0 0 room) (r, text.items)
call_of h s (acts.Lose k) (answers.Lose r) = calls s (Lose k) r
call_of h s acts.Claim (answers.Claim r) = calls s Claim r
call_of h s (acts.Deliver k) (answers.Deliver r) = elim (payload s k h) [ None ↦ None | Some text ↦ calls (other s) (Receive k text) r ]
call_of h s act answer = None

-- what the log's events are
abbrev pub happened : Log → History
happened [] = []
happened (x ∷ log) = elim (call_of (happened log) x.0.end x.0.act x.1) [ None ↦ happened log | Some y ↦ y ∷ happened log ]

-- the event happens, with that answer
abbrev pub EventStep : Log → World → Event → Answer → World → Type 0
EventStep log old event answer new = (x : Happening) × (call_of (happened log) event.end event.act answer ≡ Some x) × WorldStep (happened log) old x new

-- what comes of making two ends of a script's ranges, each told the other's true limits
abbrev pub world_made : Settings → Settings → Result World SetupFault
world_made a b = both_made (end_made Client a (limits_of b)) (end_made Server b (limits_of a))

-- the step agrees
abbrev pub EventAgrees : Log → World → Event → Answer → World → Type 0
EventAgrees log old event answer new = (x : Happening) → call_of (happened log) event.end event.act answer ≡ Some x → StepAgrees (happened log) old x new

-- a run of events alone, of ends that were told the true limits
abbrev pub EventRun : Settings → Settings → Log → World → Type 0
EventRun a b [] w = world_made a b ≡ Ok w
EventRun a b (x ∷ log) w = (v : World) × EventRun a b log v × EventStep log v x.0 x.1 w
