-- Of public contracts.
-- What one end sees of a log, as the list of items that its trace tells. The whole file is ours: RFC 9000 has no log.
use Rattle.std.specs.Prelude.{ℕ, List, [], ◌∷◌, Some, Ok, Err, flat_map, if◌then◌else◌}
use Rattle.qs_wire.specs.Streams.{dir_of}
use Rattle.qs_wire.specs.declared.stream_id.Dir.{Dir}
use Rattle.qs_wire.specs.declared.stream_id.Dir.TheVariants.{Bidi, Uni}
use Rattle.qs_recv.specs.declared.half.Read.TheVariants as reads
use Rattle.qs_calls.specs.declared.closing.Received.TheVariants as outcomes
use Rattle.qs_calls.specs.declared.event.Side.{Side}
use Rattle.qs_calls.specs.declared.event.Act.{Act}
use Rattle.qs_calls.specs.declared.event.Act.TheVariants as acts
use Rattle.qs_calls.specs.declared.event.Event.{Event}
use Rattle.qs_calls.specs.declared.answer.Answer.{Answer}
use Rattle.qs_calls.specs.declared.answer.Answer.TheVariants as answers
use Rattle.qs_trace.specs.declared.item.Turn.{Turn}
use Rattle.qs_trace.specs.declared.item.Turn.TheVariants.{Ready, ResetSent, Recv, DataRead, ResetRead}
use Rattle.qs_trace.specs.declared.item.Why.{Why}
use Rattle.qs_trace.specs.declared.item.Why.TheVariants as whys
use Rattle.qs_runs.specs.Logs.{same_side, ping_text}

-- what a trace tells: packets with their numbers, halves of streams with their new states, counts of bytes between the application and
-- the transport, and the connection's closing by this end or by its peer
pub data Item : Type 0 where
  sent : (number : ℕ) (payload : List ℕ) → Item
  received : (number : ℕ) → Item
  dropped : (number : ℕ) (why : Why) → Item
  lost : (number : ℕ) → Item
  turned : (stream : ℕ) (turn : Turn) → Item
  taken : (stream : ℕ) (count : ℕ) → Item
  given : (stream : ℕ) (count : ℕ) → Item
  closed : (code : ℕ) → Item
  peer_closed : (code : ℕ) → Item

-- a further item of a stream that has both halves
abbrev pub if_bidi : Dir → Item → List Item
if_bidi Bidi item = item ∷ []
if_bidi Uni item = []

abbrev pub open_items : Answer → List Item
open_items (answers.OpenStream (Ok n)) = turned n Ready ∷ if_bidi (dir_of n) (turned n Recv)
open_items answer = []

abbrev pub accept_items : Answer → List Item
accept_items (answers.Accept (Some n)) = turned n Recv ∷ if_bidi (dir_of n) (turned n Ready)
accept_items answer = []

abbrev pub write_items : ℕ → Answer → List Item
write_items n (answers.Write (Ok count)) = taken n count ∷ []
write_items n answer = []

abbrev pub reset_items : ℕ → Answer → List Item
reset_items n (answers.Reset (Ok done)) = turned n ResetSent ∷ []
reset_items n answer = []

abbrev pub read_items : ℕ → Answer → List Item
read_items n (answers.ReadUpTo (Ok (reads.Bytes count)) bytes) = given n count ∷ []
read_items n (answers.ReadUpTo (Ok reads.End) bytes) = turned n DataRead ∷ []
read_items n (answers.ReadUpTo (Ok (reads.Reset code)) bytes) = turned n ResetRead ∷ []
read_items n answer = []

abbrev pub make_items : Answer → List Item
make_items (answers.Make (Ok (Some made)) payload) = sent made.number payload.items ∷ []
make_items answer = []

-- under a number that the layer beneath claims, a PING goes
abbrev pub claim_items : Answer → List Item
claim_items (answers.Claim (Ok number)) = sent number ping_text ∷ []
claim_items answer = []

abbrev pub lose_items : ℕ → Answer → List Item
lose_items k (answers.Lose (Ok done)) = lost k ∷ []
lose_items k answer = []

-- what an end's own call tells
abbrev pub own_items : Act → Answer → List Item
own_items (acts.OpenStream dir) answer = open_items answer
own_items acts.Accept answer = accept_items answer
own_items (acts.Write n bytes) answer = write_items n answer
own_items (acts.Finish n) answer = []
own_items (acts.Reset n code) answer = reset_items n answer
own_items (acts.Stop n code) answer = []
own_items (acts.ReadUpTo n size) answer = read_items n answer
own_items (acts.Make room) answer = make_items answer
own_items (acts.Lose k) answer = lose_items k answer
own_items acts.Claim answer = claim_items answer
own_items (acts.Deliver k) answer = []

-- what comes of a packet that arrived
abbrev pub effect_items : ℕ → Answer → List Item
effect_items k (answers.Deliver (Ok outcomes.Duplicate)) = dropped k whys.Duplicate ∷ []
effect_items k (answers.Deliver (Ok outcomes.BelowFloor)) = dropped k whys.BelowFloor ∷ []
effect_items k (answers.Deliver (Ok outcomes.NoMemory)) = dropped k whys.NoMemory ∷ []
effect_items k (answers.Deliver (Ok (outcomes.PeerClosed code))) = peer_closed code ∷ []
effect_items k (answers.Deliver (Err closing)) = closed closing.code ∷ []
effect_items k answer = []

-- what a call at the other side tells: a packet of the peer's that arrives
abbrev pub peer_items : Act → Answer → List Item
peer_items (acts.Deliver k) answer = received k ∷ effect_items k answer
peer_items act answer = []

-- what one end sees of an event and its answer
abbrev pub items_of : Side → Event × Answer → List Item
items_of s x = if same_side s x.0.end then own_items x.0.act x.1 else peer_items x.0.act x.1

-- what one end sees of a log that has the oldest first
abbrev pub traced : Side → List (Event × Answer) → List Item
traced s log = flat_map (items_of s) log
