-- What the items of each event tell, and so those of a whole log.
use Rattle.std.proofs.Common.{◌≡◌, ℕ, Bool, true, false, List, [], ◌∷◌, ◌++◌, reverse, Some, Ok, Err, refl, sym, ap, ◌∙◌, append-nil, if◌then◌else◌}
use Rattle.std.specs.List.{flat_map}
use Rattle.std.proofs.lemmas.Grind.{flat_map-append, reverse_onto}
use Rattle.std.proofs.lemmas.List.Concat.{flat_map-cons}
use Rattle.qs_wire.specs.Streams.{dir_of}
use Rattle.qs_wire.specs.declared.stream_id.Dir.{Dir}
use Rattle.qs_wire.specs.declared.stream_id.Dir.TheVariants.{Bidi, Uni}
use Rattle.qs_recv.specs.declared.half.Read.TheVariants as reads
use Rattle.qs_calls.specs.declared.closing.Received.TheVariants as outcomes
use Rattle.qs_calls.specs.declared.event.Side.{Side}
use Rattle.qs_calls.specs.declared.event.Act.{Act}
use Rattle.qs_calls.specs.declared.event.Act.TheVariants as acts
use Rattle.qs_calls.specs.declared.event.Event.{Event}
use Rattle.qs_calls.specs.declared.answer.Answer.{Answer}
use Rattle.qs_calls.specs.declared.answer.Answer.TheVariants as answers
use Rattle.qs_runs.specs.Logs.{effects, same_side, made}
use Rattle.qs_runs.specs.Events.{Log, happened}
use Rattle.qs_runs.proofs.Scripts.{made_by, made_more}
use Rattle.qs_trace.specs.declared.item.Turn.{Turn}
use Rattle.qs_trace.specs.declared.item.Turn.TheVariants.{Ready, Recv}
use Rattle.qs_trace.specs.Items.{Item, turned, if_bidi, own_items, peer_items, effect_items, open_items, accept_items, write_items, reset_items, read_items, make_items, claim_items, lose_items, items_of, traced}
use Rattle.qs_trace.specs.Laws.{sent_by, received_by, lost_by, delivered_by, declared_by, delivered_to, declared_at, SentIsMade, ReceivedIsDelivered, LostIsDeclared}

-- of a log what holds of each event
pub each_told : {X : Type 0} (f : Item → List X) (g : Event × Answer → List X) (s : Side)
    → ((x : Event × Answer) → flat_map f (items_of s x) ≡ g x) → (log : List (Event × Answer)) → flat_map f (traced s log) ≡ flat_map g log
each_told f g s each [] = refl
each_told f g s each (x ∷ log) =
    ap (flat_map f) (flat_map-cons (items_of s) x log)
    ∙ (flat_map-append f (items_of s x) (traced s log)
    ∙ (ap (λ t. t ++ flat_map f (traced s log)) (each x)
    ∙ (ap (λ t. g x ++ t) (each_told f g s each log)
    ∙ sym (flat_map-cons g x log))))

-- what is told as sent

bidi_sent : (n : ℕ) (turn : Turn) (d : Dir) → flat_map sent_by (if_bidi d (turned n turn)) ≡ []
bidi_sent n turn Bidi = refl
bidi_sent n turn Uni = refl

open_sent : (answer : Answer) → flat_map sent_by (open_items answer) ≡ []
open_sent (answers.OpenStream (Ok n)) = bidi_sent n Recv (dir_of n)
open_sent answer = refl

accept_sent : (answer : Answer) → flat_map sent_by (accept_items answer) ≡ []
accept_sent (answers.Accept (Some n)) = bidi_sent n Ready (dir_of n)
accept_sent answer = refl

write_sent : (n : ℕ) (answer : Answer) → flat_map sent_by (write_items n answer) ≡ []
write_sent n (answers.Write (Ok count)) = refl
write_sent n answer = refl

reset_sent : (n : ℕ) (answer : Answer) → flat_map sent_by (reset_items n answer) ≡ []
reset_sent n (answers.Reset (Ok done)) = refl
reset_sent n answer = refl

read_sent : (n : ℕ) (answer : Answer) → flat_map sent_by (read_items n answer) ≡ []
read_sent n (answers.ReadUpTo (Ok (reads.Bytes count)) bytes) = refl
read_sent n (answers.ReadUpTo (Ok reads.End) bytes) = refl
read_sent n (answers.ReadUpTo (Ok (reads.Reset code)) bytes) = refl
read_sent n answer = refl

make_sent : (room : ℕ) (answer : Answer) → flat_map sent_by (make_items answer) ≡ made_by (acts.Make room) answer
make_sent room (answers.Make (Ok (Some made)) payload) = refl
make_sent room answer = refl

lose_sent : (n : ℕ) (answer : Answer) → flat_map sent_by (lose_items n answer) ≡ []
lose_sent n (answers.Lose (Ok done)) = refl
lose_sent n answer = refl

claim_sent : (answer : Answer) → flat_map sent_by (claim_items answer) ≡ made_by acts.Claim answer
claim_sent (answers.Claim (Ok number)) = refl
claim_sent answer = refl

effect_sent : (n : ℕ) (answer : Answer) → flat_map sent_by (effect_items n answer) ≡ []
effect_sent n (answers.Deliver (Ok outcomes.Duplicate)) = refl
effect_sent n (answers.Deliver (Ok outcomes.BelowFloor)) = refl
effect_sent n (answers.Deliver (Ok outcomes.NoMemory)) = refl
effect_sent n (answers.Deliver (Ok (outcomes.PeerClosed code))) = refl
effect_sent n (answers.Deliver (Err closing)) = refl
effect_sent n answer = refl

own_sent : (act : Act) (answer : Answer) → flat_map sent_by (own_items act answer) ≡ made_by act answer
own_sent (acts.OpenStream dir) answer = open_sent answer
own_sent acts.Accept answer = accept_sent answer
own_sent (acts.Write n bytes) answer = write_sent n answer
own_sent (acts.Reset n code) answer = reset_sent n answer
own_sent (acts.ReadUpTo n size) answer = read_sent n answer
own_sent (acts.Make room) answer = make_sent room answer
own_sent (acts.Lose n) answer = lose_sent n answer
own_sent acts.Claim answer = claim_sent answer
own_sent (acts.Finish n) answer = refl
own_sent (acts.Stop n code) answer = refl
own_sent (acts.Deliver k) answer = refl

peer_sent : (act : Act) (answer : Answer) → flat_map sent_by (peer_items act answer) ≡ []
peer_sent (acts.Deliver k) answer = effect_sent k answer
peer_sent act answer = refl

-- what is told as received

bidi_received : (n : ℕ) (turn : Turn) (d : Dir) → flat_map received_by (if_bidi d (turned n turn)) ≡ []
bidi_received n turn Bidi = refl
bidi_received n turn Uni = refl

open_received : (answer : Answer) → flat_map received_by (open_items answer) ≡ []
open_received (answers.OpenStream (Ok n)) = bidi_received n Recv (dir_of n)
open_received answer = refl

accept_received : (answer : Answer) → flat_map received_by (accept_items answer) ≡ []
accept_received (answers.Accept (Some n)) = bidi_received n Ready (dir_of n)
accept_received answer = refl

write_received : (n : ℕ) (answer : Answer) → flat_map received_by (write_items n answer) ≡ []
write_received n (answers.Write (Ok count)) = refl
write_received n answer = refl

reset_received : (n : ℕ) (answer : Answer) → flat_map received_by (reset_items n answer) ≡ []
reset_received n (answers.Reset (Ok done)) = refl
reset_received n answer = refl

read_received : (n : ℕ) (answer : Answer) → flat_map received_by (read_items n answer) ≡ []
read_received n (answers.ReadUpTo (Ok (reads.Bytes count)) bytes) = refl
read_received n (answers.ReadUpTo (Ok reads.End) bytes) = refl
read_received n (answers.ReadUpTo (Ok (reads.Reset code)) bytes) = refl
read_received n answer = refl

make_received : (answer : Answer) → flat_map received_by (make_items answer) ≡ []
make_received (answers.Make (Ok (Some made)) payload) = refl
make_received answer = refl

lose_received : (n : ℕ) (answer : Answer) → flat_map received_by (lose_items n answer) ≡ []
lose_received n (answers.Lose (Ok done)) = refl
lose_received n answer = refl

claim_received : (answer : Answer) → flat_map received_by (claim_items answer) ≡ []
claim_received (answers.Claim (Ok number)) = refl
claim_received answer = refl

effect_received : (n : ℕ) (answer : Answer) → flat_map received_by (effect_items n answer) ≡ []
effect_received n (answers.Deliver (Ok outcomes.Duplicate)) = refl
effect_received n (answers.Deliver (Ok outcomes.BelowFloor)) = refl
effect_received n (answers.Deliver (Ok outcomes.NoMemory)) = refl
effect_received n (answers.Deliver (Ok (outcomes.PeerClosed code))) = refl
effect_received n (answers.Deliver (Err closing)) = refl
effect_received n answer = refl

own_received : (act : Act) (answer : Answer) → flat_map received_by (own_items act answer) ≡ []
own_received (acts.OpenStream dir) answer = open_received answer
own_received acts.Accept answer = accept_received answer
own_received (acts.Write n bytes) answer = write_received n answer
own_received (acts.Reset n code) answer = reset_received n answer
own_received (acts.ReadUpTo n size) answer = read_received n answer
own_received (acts.Make room) answer = make_received answer
own_received (acts.Lose n) answer = lose_received n answer
own_received acts.Claim answer = claim_received answer
own_received (acts.Finish n) answer = refl
own_received (acts.Stop n code) answer = refl
own_received (acts.Deliver k) answer = refl

peer_received : (act : Act) (answer : Answer) → flat_map received_by (peer_items act answer) ≡ delivered_by act
peer_received (acts.Deliver k) answer = ap (λ t. k ∷ t) (effect_received k answer)
peer_received act answer = refl

-- what is told as lost

bidi_lost : (n : ℕ) (turn : Turn) (d : Dir) → flat_map lost_by (if_bidi d (turned n turn)) ≡ []
bidi_lost n turn Bidi = refl
bidi_lost n turn Uni = refl

open_lost : (answer : Answer) → flat_map lost_by (open_items answer) ≡ []
open_lost (answers.OpenStream (Ok n)) = bidi_lost n Recv (dir_of n)
open_lost answer = refl

accept_lost : (answer : Answer) → flat_map lost_by (accept_items answer) ≡ []
accept_lost (answers.Accept (Some n)) = bidi_lost n Ready (dir_of n)
accept_lost answer = refl

write_lost : (n : ℕ) (answer : Answer) → flat_map lost_by (write_items n answer) ≡ []
write_lost n (answers.Write (Ok count)) = refl
write_lost n answer = refl

reset_lost : (n : ℕ) (answer : Answer) → flat_map lost_by (reset_items n answer) ≡ []
reset_lost n (answers.Reset (Ok done)) = refl
reset_lost n answer = refl

read_lost : (n : ℕ) (answer : Answer) → flat_map lost_by (read_items n answer) ≡ []
read_lost n (answers.ReadUpTo (Ok (reads.Bytes count)) bytes) = refl
read_lost n (answers.ReadUpTo (Ok reads.End) bytes) = refl
read_lost n (answers.ReadUpTo (Ok (reads.Reset code)) bytes) = refl
read_lost n answer = refl

make_lost : (answer : Answer) → flat_map lost_by (make_items answer) ≡ []
make_lost (answers.Make (Ok (Some made)) payload) = refl
make_lost answer = refl

lose_lost : (n : ℕ) (answer : Answer) → flat_map lost_by (lose_items n answer) ≡ declared_by (acts.Lose n) answer
lose_lost n (answers.Lose (Ok done)) = refl
lose_lost n answer = refl

claim_lost : (answer : Answer) → flat_map lost_by (claim_items answer) ≡ []
claim_lost (answers.Claim (Ok number)) = refl
claim_lost answer = refl

effect_lost : (n : ℕ) (answer : Answer) → flat_map lost_by (effect_items n answer) ≡ []
effect_lost n (answers.Deliver (Ok outcomes.Duplicate)) = refl
effect_lost n (answers.Deliver (Ok outcomes.BelowFloor)) = refl
effect_lost n (answers.Deliver (Ok outcomes.NoMemory)) = refl
effect_lost n (answers.Deliver (Ok (outcomes.PeerClosed code))) = refl
effect_lost n (answers.Deliver (Err closing)) = refl
effect_lost n answer = refl

own_lost : (act : Act) (answer : Answer) → flat_map lost_by (own_items act answer) ≡ declared_by act answer
own_lost (acts.OpenStream dir) answer = open_lost answer
own_lost acts.Accept answer = accept_lost answer
own_lost (acts.Write n bytes) answer = write_lost n answer
own_lost (acts.Reset n code) answer = reset_lost n answer
own_lost (acts.ReadUpTo n size) answer = read_lost n answer
own_lost (acts.Make room) answer = make_lost answer
own_lost (acts.Lose n) answer = lose_lost n answer
own_lost acts.Claim answer = claim_lost answer
own_lost (acts.Finish n) answer = refl
own_lost (acts.Stop n code) answer = refl
own_lost (acts.Deliver k) answer = refl

peer_lost : (act : Act) (answer : Answer) → flat_map lost_by (peer_items act answer) ≡ []
peer_lost (acts.Deliver k) answer = effect_lost k answer
peer_lost act answer = refl

-- at whichever end

received_at : (act : Act) (answer : Answer) (b : Bool) → flat_map received_by (if b then own_items act answer else peer_items act answer) ≡ (if b then [] else delivered_by act)
received_at act answer true = own_received act answer
received_at act answer false = peer_received act answer

lost_at : (act : Act) (answer : Answer) (b : Bool) → flat_map lost_by (if b then own_items act answer else peer_items act answer) ≡ (if b then declared_by act answer else [])
lost_at act answer true = own_lost act answer
lost_at act answer false = peer_lost act answer

sent_at : (act : Act) (answer : Answer) (b : Bool) → flat_map sent_by (if b then own_items act answer else peer_items act answer) ≡ (if b then made_by act answer else [])
sent_at act answer true = own_sent act answer
sent_at act answer false = peer_sent act answer

pub received_is_delivered : ReceivedIsDelivered
received_is_delivered s log = each_told received_by (delivered_to s) s (λ x. received_at x.0.act x.1 (same_side s x.0.end)) log

pub lost_is_declared : LostIsDeclared
lost_is_declared s log = each_told lost_by (declared_at s) s (λ x. lost_at x.0.act x.1 (same_side s x.0.end)) log

-- what an event makes goes behind what was made before

traced_last : (s : Side) (h : Log) (x : Event × Answer) → flat_map sent_by (traced s (reverse h ++ x ∷ [])) ≡ flat_map sent_by (traced s (reverse h)) ++ flat_map sent_by (items_of s x)
traced_last s h x =
    ap (flat_map sent_by) (flat_map-append (items_of s) (reverse h) (x ∷ [])
    ∙ ap (λ t. traced s (reverse h) ++ t) (flat_map-cons (items_of s) x [] ∙ append-nil (items_of s x)))
    ∙ flat_map-append sent_by (traced s (reverse h)) (items_of s x)

pub sent_is_made : SentIsMade
unfolding effects
sent_is_made s [] = refl
sent_is_made s (x ∷ h) =
    ap (λ log. flat_map sent_by (traced s log)) (reverse_onto h x [])
    ∙ (traced_last s h x
    ∙ (ap (λ t. t ++ flat_map sent_by (items_of s x)) (sent_is_made s h)
    ∙ (ap (λ t. made s (happened h) ++ t) (sent_at x.0.act x.1 (same_side s x.0.end))
    ∙ sym (made_more s x h))))
