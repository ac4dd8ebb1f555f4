-- Of private contracts.
-- Whether anything is due that may go: what a walk over control items and streams tells.
use Rattle.std.specs.Prelude.{◌≡◌, ℕ, Bool, true, false, ◌⊎◌, List, take, min, Option, None, Some, is_some, if◌then◌else◌}
use Rattle.qs_send.specs.Lane.{SendLane, accepted, refusal, free_room}
use Rattle.qs_send.specs.Writable.{is_writable}
use Rattle.qs_send.specs.declared.piece.Item.{Item}
use Rattle.qs_machine.specs.Ends.{End}
use Rattle.qs_machine.specs.Credit.{send_ended, credit_for, window_left}
use Rattle.qs_machine.specs.Sums.{or_none}
use Rattle.qs_machine.specs.Due.{IsDueItem, StreamGoes}
use Rattle.qs_calls.specs.declared.filling.Fill.{Fill}
use Rattle.qs_machine.specs.Filling.{IsAsked, WantedGoes}
use Rattle.qs_machine.specs.News.{IsHeld, HasForPacket}
use Rattle.qs_conn.specs.Filling.{slot_of, IsPassed}
use Rattle.qs_conn.specs.Tasks.{is_funded}

-- bytes of the stream or its end are due, which its own limit lets go
abbrev pub IsDueOf : End → ℕ → Type 0
IsDueOf e n = IsHeld (HasForPacket e n) e.sends n

-- a half takes bytes now
abbrev pub MayWrite : SendLane → Type 0
MayWrite l = is_writable l ≡ true

-- what a half's own buffer, and its limit where writes keep within credit, let it take (RFC 9000, sections 2.2 and 4.1)
abbrev pub TakesAlone : End → SendLane → Type 0
TakesAlone e l = (if e.tuning.within_credit then is_funded l else is_writable l) ≡ true

-- how many bytes a half takes by its buffer, however many are written: none where it refuses them (RFC 9000, sections 2.2 and 2.4)
abbrev pub buffer_room : Option SendLane → ℕ
buffer_room None = 0
buffer_room (Some l) = if is_some (refusal l) then 0 else accepted l (free_room l)

-- the same, and of an end that writes within credit as may be sent at once (RFC 9000, section 4.1)
abbrev pub credit_room : End → Option SendLane → ℕ
credit_room e o = if e.tuning.within_credit then min (buffer_room o) (credit_for e (or_none o)) else buffer_room o

-- as many bytes as credit lets go, where writes keep within it (RFC 9000, section 4.1)
abbrev pub let_go : End → SendLane → List ℕ → List ℕ
let_go e l bytes = if e.tuning.within_credit then take (credit_for e l) bytes else bytes

-- as many of the bytes as are left, where that is bounded
abbrev pub front_of : Option ℕ → List ℕ → List ℕ
front_of None bytes = bytes
front_of (Some left) bytes = take left bytes

-- what is offered of bytes: as many as credit lets go and as the window over all halves leaves (RFC 9000, section 4.1; the window is ours)
abbrev pub offered : End → SendLane → List ℕ → List ℕ
offered e l bytes = front_of (window_left e) (let_go e l bytes)

-- a half came to its end: Data Recvd or Reset Recvd (RFC 9000, section 3.1)
abbrev pub HasSent : SendLane → Type 0
HasSent l = send_ended l ≡ true

-- some item is due; or none before a place
abbrev pub TellsDue : Bool → End → ℕ × ℕ → Type 0
TellsDue true e at = (i : Item) × IsDueItem e i
TellsDue false e at = (i : Item) → IsPassed at (slot_of i) → IsDueItem e i → ⊥

-- it is so, as the answer tells, or not
abbrev pub Tells : Bool → Type 0 → Type 0
Tells true P = P
Tells false P = P → ⊥

-- something of the stream goes
abbrev pub TellsGoing : Bool → End → ℕ → Type 0
TellsGoing b e n = Tells b (StreamGoes e n)

-- something of some stream goes
abbrev pub TellsAnyGoing : Bool → End → Type 0
TellsAnyGoing b e = Tells b ((n : ℕ) × StreamGoes e n)

-- a control item is due or a stream goes
abbrev pub FrameGoes : End → Type 0
FrameGoes e = ((i : Item) × IsDueItem e i) ⊎ ((n : ℕ) × StreamGoes e n)

abbrev pub TellsFrame : Bool → End → Type 0
TellsFrame b e = Tells b (FrameGoes e)

-- of what is asked for an item is due
abbrev pub TellsItem : Fill → Bool → End → Type 0
TellsItem want b e = Tells b ((want.items ≡ true) × ((i : Item) × IsDueItem e i))

-- of what is asked for something of some stream goes
abbrev pub TellsStream : Fill → Bool → End → Type 0
TellsStream want b e = Tells b ((n : ℕ) × IsAsked want n × StreamGoes e n)

-- something that is asked for goes
abbrev pub TellsWanted : Fill → Bool → End → Type 0
TellsWanted want b e = Tells b (WantedGoes want e)
