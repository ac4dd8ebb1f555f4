-- Trusted.
-- What comes of a payload that arrives under a packet number (RFC 9000, sections 10.2, 11.1, 12.3, 12.4 and 13.1).
use Rattle.std.specs.Prelude.{◌≡◌, ℕ, ◌+◌, ◌-◌, Bool, false, ◌||◌, List, [], ◌∷◌, take, slice_get, ◌⊎◌, Option, None, Some, Result, Ok, Err, nat_lt, MatchBool}
use Rattle.std.specs.FinSet as set
use Rattle.qs_ranges.specs.Numbers.{MissesRange}
use Rattle.qs_wire.specs.Layout.{PlacedValue}
use Rattle.qs_wire.specs.Reading.{reading_of}
use Rattle.qs_wire.specs.declared.fault.WireFault.{WireFault}
use Rattle.qs_calls.specs.declared.closing.Closing.{Closing}
use Rattle.qs_calls.specs.declared.closing.Closed.{Closed}
use Rattle.qs_calls.specs.declared.closing.Closer.{Closer}
use Rattle.qs_calls.specs.declared.closing.Closer.TheVariants.{Us, Peer}
use Rattle.qs_calls.specs.declared.closing.NotedClose.{NotedClose}
use Rattle.qs_calls.specs.declared.closing.Closed.TheVariants.{ByUs, ByPeer, Noted}
use Rattle.qs_calls.specs.declared.closing.Received.{Received}
use Rattle.qs_calls.specs.declared.closing.Received.TheVariants.{Done, Duplicate, BelowFloor, PeerClosed, NoMemory}
use Rattle.qs_machine.specs.Ends.{End, closes}
use Rattle.qs_machine.specs.Credit.{settle}
use Rattle.qs_machine.specs.Seen.{Seen, Ack, Close, seen, asks_ack}
use Rattle.qs_machine.specs.Verdicts.{verdict}
use Rattle.qs_machine.specs.FrameStep.{frame_taken, named, acks}
use Rattle.qs_machine.specs.Memory.{MayRunOut, StopsAt}
use Rattle.qs_machine.specs.Recording.{recorded}

-- the closing for a frame that has a fault, and for bytes that are no frame (RFC 9000, sections 11.1 and 19.19)
abbrev pub closing_at : PlacedValue → ℕ → Closing
closing_at p code = record { code = code; frame_type = p.frame_type; place = p.place }

-- the closing for bytes that are no frame (RFC 9000, sections 12.4 and 19.19)
abbrev pub closing_of : WireFault → Closing
closing_of fault = record { code = fault.code; frame_type = fault.frame_type; place = fault.place }

-- What stands where no frame is left: the number is recorded, or there is no memory for it, where it touches none that is kept; or the
-- bytes that follow are no frame (RFC 9000, sections 12.4 and 13.1).
abbrev pub AtEnd : ℕ → Bool → Option WireFault → End → Result Received Closing → End → Type 0
AtEnd number asks None e (Ok Done) new = new ≡ recorded number asks e
AtEnd number asks None e (Ok NoMemory) new = (new ≡ e) × MissesRange e.done (number - 1) (number + 2)
AtEnd number asks (Some fault) e (Err closing) new = (closing ≡ closing_of fault) × (new ≡ closes (ByUs closing) e)
AtEnd number asks fault e result new = ⊥

-- A frame without a fault asks for memory and finds none: nothing of it takes effect; of an ACK some of the pieces are acknowledged, in
-- order, up to one that asks (ours: RFC 9000 has no want of memory).
abbrev pub RunsOut : End → Seen → End → Type 0
RunsOut e (Ack largest ranges) new =
    (m : ℕ) × (new ≡ acks (take m (named e ranges)) e) × StopsAt new.sends new.acked (slice_get (named e ranges) m)
RunsOut e f new = (new ≡ e) × MayRunOut e f

-- A frame ends the processing: it has a fault, or finds no memory, or is a CONNECTION_CLOSE (RFC 9000, sections 10.2 and 11.1).
abbrev pub Stops : PlacedValue → Seen → End → Result Received Closing → End → Type 0
Stops p (Close code) e (Ok (PeerClosed peer_code)) new = (peer_code ≡ code) × (new ≡ closes (ByPeer code) e)
Stops p (Close code) e result new = ⊥
Stops p f e (Ok NoMemory) new = (verdict e f ≡ None) × RunsOut e f new
Stops p f e (Ok received) new = ⊥
Stops p f e (Err closing) new = (verdict e f ≡ Some closing.code) × (closing ≡ closing_at p closing.code) × (new ≡ closes (ByUs closing) e)

-- what ended the processing, where these frames are left
abbrev pub EndsBy : ℕ → Option WireFault → Bool → List PlacedValue → End → Result Received Closing → End → Type 0
EndsBy number fault asks [] e result new = AtEnd number asks fault e result new
EndsBy number fault asks (p ∷ ps) e result new = Stops p (seen p.frame) e result new

-- a frame takes effect and the processing goes on (RFC 9000, section 13.1)
abbrev pub GoesOn : End → Seen → Type 0
GoesOn e (Close code) = ⊥
GoesOn e f = verdict e f ≡ None

-- From here on some of the frames took effect, one after the other, from the first one on, and then the processing ended so. `asks` tells
-- whether a frame before them asked for an ACK (RFC 9000, section 13.1).
abbrev pub Takes : ℕ → Option WireFault → Bool → End → List PlacedValue → Result Received Closing → End → Type 0
Takes number fault asks e [] result new = AtEnd number asks fault e result new
Takes number fault asks e (p ∷ ps) result new =
    Stops p (seen p.frame) e result new
    ⊎ (GoesOn e (seen p.frame) × Takes number fault (asks || asks_ack (seen p.frame)) (frame_taken (seen p.frame) e) ps result new)

-- the frames are those of the payload's bytes, and so is the fault (RFC 9000, section 12.4)
abbrev pub TakesPayload : ℕ → List ℕ → End → Result Received Closing → End → Type 0
TakesPayload number payload old result new =
    let reading = reading_of payload in Takes number reading.fault false old reading.left result new

-- a number below the floor and one that was processed change nothing; else the payload is taken (RFC 9000, section 12.3)
abbrev pub OpenReceive : ℕ → List ℕ → End → Result Received Closing → End → Type 0
OpenReceive number payload old result new =
    MatchBool (nat_lt number old.floor)
    ((result ≡ Ok BelowFloor) × (new ≡ old))
    (MatchBool (set.contains old.done number)
    ((result ≡ Ok Duplicate) × (new ≡ old))
    ((mid : End) × TakesPayload number payload old result mid × (new ≡ settle mid)))

-- an end's own close that it was told of is no frame's fault (RFC 9000, section 10.2)
abbrev pub noted_of_us : ℕ → Closing
noted_of_us code = record { code = code; frame_type = 0; place = 0 }

-- what an end that was told of a close says again (RFC 9000, section 10.2)
abbrev pub noted_receive : Closer → ℕ → Result Received Closing
noted_receive Us code = Err (noted_of_us code)
noted_receive Peer code = Ok (PeerClosed code)

-- an end that is closed says so again (RFC 9000, section 10.2)
abbrev pub ClosedReceive : Closed → End → Result Received Closing → End → Type 0
ClosedReceive (ByUs closing) old result new = (result ≡ Err closing) × (new ≡ old)
ClosedReceive (ByPeer code) old result new = (result ≡ Ok (PeerClosed code)) × (new ≡ old)
ClosedReceive (Noted close) old result new = (result ≡ noted_receive close.by close.code) × (new ≡ old)

-- of a closed end, or of an open one (RFC 9000, section 10.2)
abbrev pub ReceiveBy : Option Closed → ℕ → List ℕ → End → Result Received Closing → End → Type 0
ReceiveBy (Some closed) number payload old result new = ClosedReceive closed old result new
ReceiveBy None number payload old result new = OpenReceive number payload old result new

-- `receive` of a payload (RFC 9000, sections 12.3 and 13.1)
abbrev pub ReceiveStep : End → ℕ → List ℕ → Result Received Closing → End → Type 0
ReceiveStep old number payload result new = ReceiveBy old.closed number payload old result new

-- A close that the owner saw or made itself (RFC 9000, section 10.2)

abbrev pub noted_by : Option Closed → NotedClose → End → End
noted_by None close e = closes (Noted close) e
noted_by (Some closed) close e = e

-- `note_closed`: an open end closes, and one that closed stays as it is (RFC 9000, section 10.2)
abbrev pub noted_closed : NotedClose → End → End
noted_closed close e = noted_by e.closed close e
