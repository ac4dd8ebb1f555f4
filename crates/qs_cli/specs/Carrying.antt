-- Of public contracts.
-- Packets go over a wire that may fail: which events take place, and what is written of them.
use Rattle.std.specs.Prelude.{◌≡◌, ℕ, suc, ◌-◌, ◌≤◌, ◌^◌, List, [], ◌∷◌, ◌++◌, length, take, drop, reverse, codes, decimal, Option, Some, Result, Ok, Err, nat_lt, Bool, true, false, ⊤, ◌⊎◌, if◌then◌else◌, refl}
use Rattle.std.specs.Coded.{Coded, code_by, coded×, coded_ℕ}
use Rattle.std.specs.Int.{w64, from_be_bytes}
use Rattle.std.specs.Io.KnownBytes.{Appends}
use Rattle.qs_machine.specs.Examples.{standard}
use Rattle.qs_calls.specs.declared.event.Side.{Side}
use Rattle.qs_calls.specs.declared.event.Act.{Act}
use Rattle.qs_calls.specs.declared.event.Act.TheVariants.{Lose, Deliver}
use Rattle.qs_calls.specs.declared.event.Event.{Event}
use Rattle.qs_calls.specs.declared.answer.Answer.{Answer}
use Rattle.qs_world.specs.declared.report.Report.{Report}
use Rattle.qs_world.specs.declared.report.PlayFault.{PlayFault}
use Rattle.qs_world.specs.declared.report.PlayFault.TheVariants as faults
use Rattle.qs_calls.specs.Events.{act_fits}
use Rattle.qs_runs.specs.Logs.{payload}
use Rattle.qs_runs.specs.Events.{Log, happened, EventStep}
use Rattle.qs_world.specs.Copies.{SameEvent, IsReportOf}
use Rattle.qs_world.specs.Plays.{AgreeingRun, Played, IsMissing}
use Rattle.qs_world.specs.PlayText.{play_text}
use Rattle.qs_cli.specs.declared.status.Status.{Status}
use Rattle.qs_cli.specs.declared.status.Status.TheVariants.{Success, FaultShown, BadUsage, NoMemory, Failed}
use Rattle.qs_cli.specs.Runs.{missing_line, IsScriptOf, NamesFault}

-- how many calls of a wire failed, and how many of these were sends
pub record Failings : Type 0 where
  pub calls : ℕ
  pub sends : ℕ

-- it is stored as the pair of its fields
abbrev pub failings_code : Coded Failings
failings_code = code_by (ℕ × ℕ) (coded× coded_ℕ coded_ℕ) (λ f. (f.calls, f.sends)) (λ p. record { calls = p.0; sends = p.1 }) (λ _. refl)

abbrev pub none_failed : Failings
none_failed = record { calls = 0; sends = 0 }

-- one more: a count stays at its greatest value
abbrev pub one_more : ℕ → ℕ
one_more n = if nat_lt n (2 ^ 64 - 1) then suc n else n

-- one more send failed
abbrev pub send_failed : Failings → Failings
send_failed f = record { calls = one_more f.calls; sends = one_more f.sends }

-- one more receive failed
abbrev pub recv_failed : Failings → Failings
recv_failed f = record f { calls = one_more f.calls }

-- what failed after a send that gave this answer, and after a receive
abbrev pub after_send : {X E : Type 0} → Result X E → Failings → Failings
after_send (Ok done) f = f
after_send (Err error) f = send_failed f

abbrev pub after_recv : {X E : Type 0} → Result X E → Failings → Failings
after_recv (Ok count) f = f
after_recv (Err error) f = recv_failed f

-- A datagram is the packet that an end made under that number: the number in eight bytes, the most significant one first, and then the
-- payload.
abbrev pub IsPacketOf : Side → Log → ℕ → List ℕ → Type 0
IsPacketOf s h k datagram =
    (8 ≤ length datagram) × (k ≡ from_be_bytes w64 (take 8 datagram)) × (act_fits (Deliver k) ≡ true) × (payload s k (happened h) ≡ Some (drop 8 datagram))

-- a datagram is none of an end's packets
abbrev pub IsStranger : Side → Log → List ℕ → Type 0
IsStranger s h datagram = (k : ℕ) → IsPacketOf s h k datagram → ⊥

-- an event happens, and is logged with its answer
abbrev pub Happens : Played → Event → Played → Type 0
Happens old event new = (answer : Answer) × (new.log ≡ (event, answer) ∷ old.log) × EventStep old.log old.ends event answer new.ends

-- An event happens, and no stranger's datagram came; or a packet that wasn't made was to be delivered; or there was no memory.
abbrev pub StepsBy : Played → Event → Result Bool PlayFault → Played → Type 0
StepsBy old event (Ok stranger) new = (stranger ≡ false) × Happens old event new
StepsBy old event (Err (faults.NoSuchPacket k)) new = (new ≡ old) × IsMissing old.log event × (k ≡ suc (length old.log))
StepsBy old event (Err faults.NoMemory) new = ⊤
StepsBy old event (Err (faults.Setup fault)) new = ⊥

-- What comes of a packet that is to be delivered, by what failed of the wire before and after, and whether a stranger's datagram came: the
-- send failed, and the packet is lost; or the receive failed, and nothing happens; or a stranger's datagram came, and nothing happens; or
-- a packet of that end arrives.
abbrev pub Delivers : Side → ℕ → Played → Failings → Bool → Played → Failings → Type 0
Delivers s k old f stranger new g =
    ((g ≡ send_failed f) × (stranger ≡ false) × Happens old (record { end = s; act = Lose k }) new)
    ⊎ (((g ≡ recv_failed f) × (stranger ≡ false) × (new ≡ old))
    ⊎ (((g ≡ f) × (stranger ≡ true) × (new ≡ old))
    ⊎ ((g ≡ f) × (stranger ≡ false) × (j : ℕ) × Happens old (record { end = s; act = Deliver j }) new)))

-- what comes of an event over a wire: a delivery as above, and any other event happens as it was handed in
abbrev pub Carries : Side → Act → Played → Failings → Bool → Played → Failings → Type 0
Carries s (Deliver k) old f stranger new g = Delivers s k old f stranger new g
Carries s act old f stranger new g =
    (g ≡ f) × (stranger ≡ false) × (placed : Event) × SameEvent placed (record { end = s; act = act }) × Happens old placed new

-- What one event comes to over a wire, and what failed of the wire; or a packet wasn't made that was to be delivered; or there was no
-- memory.
abbrev pub CarryStep : Played → Failings → Event → Result Bool PlayFault → Played → Failings → Type 0
CarryStep old f event (Ok stranger) new g = Carries event.end event.act old f stranger new g
CarryStep old f event (Err (faults.NoSuchPacket k)) new g = (new ≡ old) × (g ≡ f) × IsMissing old.log event × (k ≡ suc (length old.log))
CarryStep old f event (Err faults.NoMemory) new g = ⊤
CarryStep old f event (Err (faults.Setup fault)) new g = ⊥

-- one stranger's datagram more, if one came
abbrev pub counted : Bool → ℕ → ℕ
counted true n = one_more n
counted false n = n

-- Each event came to what it may over a wire, the last one first: from a new world on to this one, from what had failed of the wire to
-- what failed since, with so many strangers' datagrams.
abbrev pub Carried : Failings → List Event → Played → Failings → ℕ → Type 0
Carried before [] p after strangers = (p.log ≡ []) × (after ≡ before) × (strangers ≡ 0)
Carried before (event ∷ earlier) p after strangers =
    (q : Played) × (mid : Failings) × (n : ℕ) × (stranger : Bool)
    × Carried before earlier q mid n × Carries event.end event.act q mid stranger p after × (strangers ≡ counted stranger n)

-- an agreeing run between two ends of the standard settings of what these events came to
pub record HasCarried (before : Failings) (events : List Event) (p : Played) (after : Failings) (strangers : ℕ) : Type 0 where
  pub run : AgreeingRun standard standard p.log p.ends
  pub carried : Carried before (reverse events) p after strangers

-- What comes of events over a wire, in a world that was new: such a run of them; or of those before one whose packet wasn't made; or want
-- of memory.
abbrev pub CarryOf : Failings → List Event → Result ℕ PlayFault → Played → Failings → Type 0
CarryOf failed events (Ok strangers) p now = HasCarried failed events p now strangers
CarryOf failed events (Err (faults.NoSuchPacket k)) p now =
    (before after : List Event) × (event : Event) × (strangers : ℕ)
    × (events ≡ before ++ event ∷ after) × HasCarried failed before p now strangers × IsMissing p.log event × (k ≡ suc (length p.log))
CarryOf failed events (Err faults.NoMemory) p now = ⊤
CarryOf failed events (Err (faults.Setup fault)) p now = ⊥

-- the line that tells how many calls of the wire failed and how many datagrams were a stranger's
abbrev pub wire_line : ℕ → ℕ → List ℕ
wire_line failures strangers = codes "wire failures " ++ (decimal failures ++ (codes " strangers " ++ (decimal strangers ++ codes "\n")))

-- the text of a report of a world was written, and the line of the wire; where memory was refused nothing was
abbrev pub ShowsWorld : Result Report Status → Played → ℕ → ℕ → Option (List ℕ) → Option (List ℕ) → Type 0
ShowsWorld (Ok report) p failures strangers old new = IsReportOf p report × Appends old new (play_text report ++ wire_line failures strangers)
ShowsWorld (Err Success) p failures strangers old new = ⊥
ShowsWorld (Err FaultShown) p failures strangers old new = ⊥
ShowsWorld (Err BadUsage) p failures strangers old new = ⊥
ShowsWorld (Err NoMemory) p failures strangers old new = new ≡ old
ShowsWorld (Err Failed) p failures strangers old new = ⊤

-- The text of a report of what took place was written, and the line of the wire with the rise of its failures; or the line that names a
-- packet that wasn't made; where memory was refused nothing was written.
abbrev pub AnswersCarried : Result Report Status → List Event → Failings → Failings → Option (List ℕ) → Option (List ℕ) → Type 0
AnswersCarried (Ok report) events before after old new =
    (p : Played) × (strangers : ℕ) × HasCarried before events p after strangers × ShowsWorld (Ok report) p (after.calls - before.calls) strangers old new
AnswersCarried (Err FaultShown) events before after old new =
    (k : ℕ) × (p : Played) × CarryOf before events (Err (faults.NoSuchPacket k)) p after × Appends old new (missing_line k)
AnswersCarried (Err Success) events before after old new = ⊥
AnswersCarried (Err BadUsage) events before after old new = ⊥
AnswersCarried (Err NoMemory) events before after old new = new ≡ old
AnswersCarried (Err Failed) events before after old new = ⊤

-- The events of the script were played over a wire, or its first line that is no event was named; where memory was refused nothing was
-- written.
abbrev pub AnswersUdp : Result Report Status → List ℕ → Failings → Failings → Option (List ℕ) → Option (List ℕ) → Type 0
AnswersUdp (Ok report) script before after old new =
    (events : List Event) × IsScriptOf script events × AnswersCarried (Ok report) events before after old new
AnswersUdp (Err FaultShown) script before after old new =
    ((events : List Event) × IsScriptOf script events × AnswersCarried (Err FaultShown) events before after old new) ⊎ NamesFault script old new
AnswersUdp (Err Success) script before after old new = ⊥
AnswersUdp (Err BadUsage) script before after old new = ⊥
AnswersUdp (Err NoMemory) script before after old new = new ≡ old
AnswersUdp (Err Failed) script before after old new = ⊤
