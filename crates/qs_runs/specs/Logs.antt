-- Trusted.
-- What happened to two ends, and what can be read off it: what was written, read, made and taken. The whole file is ours:
-- RFC 9000 has no log.
use Rattle.std.specs.Prelude.{◌≡◌, ℕ, Bool, true, false, not, ◌&&◌, ◌||◌, ◌==◌, List, [], ◌∷◌, ◌++◌, flat_map, length, take, drop, Option, None, Some, Result, Ok, Err, slice_get, if◌then◌else◌, nat_le}
use Rattle.std.specs.List.{list_any}
use Rattle.qs_calls.specs.declared.closing.Received.{Received}
use Rattle.qs_calls.specs.declared.closing.Received.TheVariants.{Done, Duplicate, BelowFloor, PeerClosed, NoMemory}
use Rattle.qs_calls.specs.declared.token.Token.{Token}
use Rattle.qs_calls.specs.declared.token.TokenFault.{TokenFault}
use Rattle.qs_calls.specs.declared.token.TokenFault.TheVariants as tokens
use Rattle.qs_calls.specs.declared.event.Side.{Side}
use Rattle.qs_calls.specs.declared.event.Side.TheVariants.{A, B}
use Rattle.qs_recv.specs.declared.half.Read.{Read}
use Rattle.qs_recv.specs.declared.half.Read.TheVariants as reads
use Rattle.qs_recv.specs.declared.half.Peek.TheVariants as looks
use Rattle.qs_send.specs.Records.{Among}
use Rattle.qs_send.specs.declared.piece.Item.TheVariants.{DataBlocked, StreamsBlocked}
use Rattle.qs_wire.specs.Layout.{FrameValue}
use Rattle.qs_machine.specs.Seen.{Seen, Control, seen_all}
use Rattle.qs_machine.specs.Alone.{is_ours}
use Rattle.qs_machine.specs.Plains.{frames_in}
use Rattle.qs_machine.specs.EndStep.{Call, Answer, Open, Accept, AcceptOf, Write, Finish, Reset, Stop, StopAndDiscard, ReadUpTo, Consume, Peek, Receive, TakeFrame, TakeFrames, TokenAcked, TokenLost, Make, MakeAck, FillIn, Lose, Claim, RaiseLimits, Set, NoteClosed, ClosingPayload, Stored, Granted, Spent, GrantedStreams, Report}

-- one call of an end, with its answer
pub record Happening : Type 0 where
  pub end : Side
  pub call : Call
  pub answer : Answer call

-- what happened, the newest first
abbrev pub History : Type 0
History = List Happening

abbrev pub other : Side → Side
other A = B
other B = A

abbrev pub same_side : Side → Side → Bool
same_side A A = true
same_side A B = false
same_side B A = false
same_side B B = true

-- What a call did that the other end or the owner knows of: bytes of a stream were accepted; some were given to its reader; its end was
-- told to it; it stopped; its writer broke it off; a payload went out; one that came under that number took effect in whole, or frames did
-- without one; packets were told to be acknowledged; the end was told of a close.
pub data Effect : Type 0 where
  Wrote : (stream : ℕ) (bytes : List ℕ) → Effect
  Gave : (stream : ℕ) (bytes : List ℕ) → Effect
  Ended : (stream : ℕ) → Effect
  Stopped : (stream : ℕ) → Effect
  BrokeOff : (stream : ℕ) → Effect
  Sent : (text : List ℕ) → Effect
  Came : (number : ℕ) (bytes : List ℕ) → Effect
  CameAlone : (frames : List FrameValue) → Effect
  Acked : (token : Token) → Effect
  NotedClosed : Effect

-- of a call that was refused there are none
abbrev pub if_ok : {R F : Type 0} → Result R F → (R → List Effect) → List Effect
if_ok (Ok value) effects = effects value
if_ok (Err fault) effects = []

-- a read gave these bytes of the stream, or told its end
abbrev pub read_effects : (stream : ℕ) → Read → List ℕ → List Effect
read_effects n (reads.Bytes count) bytes = Gave n bytes ∷ []
read_effects n reads.End bytes = Ended n ∷ []
read_effects n (reads.Reset code) bytes = []
read_effects n reads.Wait bytes = []

-- the payload that was made, or the frames that were filled in, where any were
abbrev pub sent_effects : {M : Type 0} → Option M → List ℕ → List Effect
sent_effects (Some packet) text = Sent text ∷ []
sent_effects None text = []

-- a payload was taken in whole
abbrev pub came_effects : (number : ℕ) → List ℕ → Received → List Effect
came_effects k bytes Done = Came k bytes ∷ []
came_effects k bytes Duplicate = []
came_effects k bytes BelowFloor = []
came_effects k bytes (PeerClosed code) = []
came_effects k bytes NoMemory = []

-- the end took the token, or the first pieces of its packets
abbrev pub acked_effects : Token → Result (Unit {0}) TokenFault → List Effect
acked_effects t (Ok done) = Acked t ∷ []
acked_effects t (Err tokens.NoMemory) = Acked t ∷ []
acked_effects t (Err tokens.NotGiven) = []
acked_effects t (Err tokens.Closed) = []

-- what the layer beneath sends under a number that it claimed: a PING (RFC 9000, section 19.2)
abbrev pub ping_text : List ℕ
ping_text = 1 ∷ []

-- What a call did, in order. Frames of kinds that aren't the end's own are left alone by it, and may stand among those that came alone. Of
-- several that came alone and found no memory none counts as taken, though the first ones may have taken effect: the answer doesn't tell
-- how many, and all may come again.
abbrev pub effects_of : (call : Call) → Answer call → List Effect
effects_of (Open d) answer = []
effects_of Accept answer = []
effects_of (AcceptOf d) answer = []
effects_of (Write n bytes) answer = if_ok answer (λ count. Wrote n (take count bytes) ∷ [])
effects_of (Finish n) answer = []
effects_of (Reset n code) answer = if_ok answer (λ done. BrokeOff n ∷ [])
effects_of (Stop n code) answer = if_ok answer (λ done. Stopped n ∷ [])
effects_of (StopAndDiscard n code) answer = if_ok answer (λ done. Stopped n ∷ [])
effects_of (ReadUpTo n size) answer = if_ok answer.0 (λ value. read_effects n value answer.1)
effects_of (Consume n most) answer = if_ok answer.0 (λ value. read_effects n value.read answer.1 ++ (if value.at_end then Ended n ∷ [] else []))
effects_of (Peek n) answer = []
effects_of (Receive k bytes) answer = if_ok answer (came_effects k bytes)
effects_of (TakeFrame f) answer = if_ok answer (λ value. CameAlone (f ∷ []) ∷ [])
effects_of (TakeFrames fs) answer = if_ok answer (λ value. CameAlone fs ∷ [])
effects_of (TokenAcked t) answer = acked_effects t answer
effects_of (TokenLost t) answer = []
effects_of (Make first delay room) answer = if_ok answer.0 (λ packet. sent_effects packet answer.1)
effects_of (MakeAck delay room) answer = if_ok answer.0 (λ packet. sent_effects packet answer.1)
effects_of (FillIn want room) answer = if_ok answer.0 (λ filled. sent_effects filled answer.1)
effects_of (Lose k) answer = []
effects_of Claim answer = if_ok answer (λ number. Sent ping_text ∷ [])
effects_of (RaiseLimits p) answer = []
effects_of (Set x) answer = []
effects_of (NoteClosed close) answer = NotedClosed ∷ []
effects_of (ClosingPayload slice) answer = []
effects_of Stored answer = []
effects_of Granted answer = []
effects_of Spent answer = []
effects_of (GrantedStreams d) answer = []
effects_of (Report n) answer = []

-- all that was done at one end, the oldest first
unfoldable pub effects : Side → History → List Effect
effects s [] = []
effects s (x ∷ h) = effects s h ++ (if same_side s x.end then effects_of x.call x.answer else [])

-- Read off that

abbrev pub wrote_in : ℕ → Effect → List ℕ
wrote_in n (Wrote m bytes) = if n == m then bytes else []
wrote_in n x = []

-- the bytes of a stream that `write` accepted at one end, joined
abbrev pub written : Side → ℕ → History → List ℕ
written s n h = flat_map (wrote_in n) (effects s h)

abbrev pub gave_in : ℕ → Effect → List ℕ
gave_in n (Gave m bytes) = if n == m then bytes else []
gave_in n x = []

-- the bytes of a stream that `read` gave at one end, and `consume` took, joined
abbrev pub read : Side → ℕ → History → List ℕ
read s n h = flat_map (gave_in n) (effects s h)

-- what a look showed of a stream and wasn't read since, and what one more call leaves of that
abbrev pub shown_after : ℕ → (call : Call) → Answer call → List ℕ → List ℕ
shown_after n (Peek m) (Ok (looks.Bytes front back)) before = if n == m then front.now ++ back.now else before
shown_after n (Peek m) answer before = if n == m then [] else before
shown_after n call answer before = drop (length (flat_map (gave_in n) (effects_of call answer))) before

abbrev pub shown : Side → ℕ → History → List ℕ
shown s n [] = []
shown s n (x ∷ h) = if same_side s x.end then shown_after n x.call x.answer (shown s n h) else shown s n h

-- the stream's reader stopped
abbrev pub stops_in : ℕ → Effect → Bool
stops_in n (Stopped m) = n == m
stops_in n x = false

abbrev pub stopped : Side → ℕ → History → Bool
stopped s n h = list_any (stops_in n) (effects s h)

-- the stream's writer broke it off by a reset
abbrev pub breaks_in : ℕ → Effect → Bool
breaks_in n (BrokeOff m) = n == m
breaks_in n x = false

abbrev pub broken_off : Side → ℕ → History → Bool
broken_off s n h = list_any (breaks_in n) (effects s h)

-- the stream's reader was told the end, and had not stopped before
abbrev pub ends_first : ℕ → List Effect → Bool
ends_first n [] = false
ends_first n (Ended m ∷ xs) = n == m || ends_first n xs
ends_first n (Stopped m ∷ xs) = not (n == m) && ends_first n xs
ends_first n (x ∷ xs) = ends_first n xs

abbrev pub read_whole : Side → ℕ → History → Bool
read_whole s n h = ends_first n (effects s h)

abbrev pub sent_in : Effect → List (List ℕ)
sent_in (Sent text) = text ∷ []
sent_in x = []

-- the payloads of the packets that one end's side sent, its own, those of fills and those under claimed numbers, in order: packet numbers
-- and tokens are one count, from 0
abbrev pub made : Side → History → List (List ℕ)
made s h = flat_map sent_in (effects s h)

abbrev pub payload : Side → ℕ → History → Option (List ℕ)
payload s k h = slice_get (made s h) k

abbrev pub comes_in : ℕ → Effect → Bool
comes_in k (Came j bytes) = k == j
comes_in k x = false

-- the peer's packet k came to one end, and was taken in whole
abbrev pub processed : Side → ℕ → History → Bool
processed s k h = list_any (comes_in k) (effects s h)

abbrev pub took_in : Effect → List Seen
took_in (Came k bytes) = frames_in bytes
took_in (CameAlone frames) = seen_all frames
took_in x = []

-- the frames that came to one end and took effect, with a packet or without one
abbrev pub taken : Side → History → List Seen
taken s h = flat_map took_in (effects s h)

-- the packet is one of the token's
abbrev pub is_in : Token → ℕ → Bool
is_in token k = nat_le token.first k && nat_le k token.number

abbrev pub acks_in : ℕ → Effect → Bool
acks_in k (Acked token) = is_in token k
acks_in k x = false

-- one end was told by a token that its packet k was acknowledged
abbrev pub was_acked : Side → ℕ → History → Bool
was_acked s k h = list_any (acks_in k) (effects s h)

abbrev pub closes_in : Effect → Bool
closes_in NotedClosed = true
closes_in x = false

-- one end was told of a close that its owner saw or made (RFC 9000, section 10.2)
abbrev pub was_noted_closed : Side → History → Bool
was_noted_closed s h = list_any closes_in (effects s h)

-- the frame stood in a payload of one end
abbrev pub HasMade : History → Side → Seen → Type 0
HasMade h s f = (k : ℕ) × (text : List ℕ) × (payload s k h ≡ Some text) × Among f (frames_in text)

-- a frame of streams or of flow control has to land, but DATA_BLOCKED and STREAMS_BLOCKED, which change nothing (RFC 9000, sections 19.12
-- and 19.14)
abbrev pub must_land : Seen → Bool
must_land (Control (DataBlocked limit)) = false
must_land (Control (StreamsBlocked dir count)) = false
must_land f = is_ours f

-- One end's packet k landed at the other: each of its frames that has to took effect there, in whichever packet it came or without one.
abbrev pub HasLanded : History → Side → ℕ → Type 0
HasLanded h s k = (text : List ℕ) × (payload s k h ≡ Some text) × ((f : Seen) → Among f (frames_in text) → must_land f ≡ true → Among f (taken (other s) h))
