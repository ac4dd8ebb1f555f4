-- Of laws.
-- What a trace tells, held against the log: each packet stands in the trace of the end that sent it once as sent, and in that of the
-- other end once as received for each delivery; each loss stands once; all in the log's order. The whole file is ours.
use Rattle.std.specs.Prelude.{◌≡◌, ℕ, List, [], ◌∷◌, Ok, reverse, if◌then◌else◌}
use Rattle.std.specs.List.{flat_map}
use Rattle.qs_calls.specs.declared.event.Side.{Side}
use Rattle.qs_calls.specs.declared.event.Act.{Act}
use Rattle.qs_calls.specs.declared.event.Act.TheVariants as acts
use Rattle.qs_calls.specs.declared.event.Event.{Event}
use Rattle.qs_calls.specs.declared.answer.Answer.{Answer}
use Rattle.qs_calls.specs.declared.answer.Answer.TheVariants as answers
use Rattle.qs_runs.specs.Logs.{same_side, made}
use Rattle.qs_runs.specs.Events.{Log, happened}
use Rattle.qs_trace.specs.Items.{Item, sent, received, lost, traced}

-- the payload of an item that tells of a packet sent
abbrev pub sent_by : Item → List (List ℕ)
sent_by (sent number payload) = payload ∷ []
sent_by item = []

abbrev pub received_by : Item → List ℕ
received_by (received number) = number ∷ []
received_by item = []

abbrev pub lost_by : Item → List ℕ
lost_by (lost number) = number ∷ []
lost_by item = []

-- the number of the packet that an act delivers
abbrev pub delivered_by : Act → List ℕ
delivered_by (acts.Deliver k) = k ∷ []
delivered_by act = []

-- the number of the packet that an act declares lost, where that is so
abbrev pub declared_by : Act → Answer → List ℕ
declared_by (acts.Lose k) (answers.Lose (Ok done)) = k ∷ []
declared_by act answer = []

-- the number of the peer's packet that an event delivers to an end
abbrev pub delivered_to : Side → Event × Answer → List ℕ
delivered_to s x = if same_side s x.0.end then [] else delivered_by x.0.act

-- the number of an end's packet that an event declares lost
abbrev pub declared_at : Side → Event × Answer → List ℕ
declared_at s x = if same_side s x.0.end then declared_by x.0.act x.1 else []

-- the payloads that a trace tells as sent are those that the end's side sent, in order
abbrev pub SentIsMade : Type 0
SentIsMade = (s : Side) (log : Log) → flat_map sent_by (traced s (reverse log)) ≡ made s (happened log)

-- the numbers that it tells as received are those of the peer's packets that were delivered, in order, each as often as it was
abbrev pub ReceivedIsDelivered : Type 0
ReceivedIsDelivered = (s : Side) (log : List (Event × Answer)) → flat_map received_by (traced s log) ≡ flat_map (delivered_to s) log

-- the numbers that it tells as lost are those that were declared so, in order
abbrev pub LostIsDeclared : Type 0
LostIsDeclared = (s : Side) (log : List (Event × Answer)) → flat_map lost_by (traced s log) ≡ flat_map (declared_at s) log
