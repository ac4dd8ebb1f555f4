-- Trusted.
-- Frames that come without their packet, and packets that are told by their tokens: for a stack that owns its packet numbers and its ACKs
-- (RFC 9000, sections 12.4, 13.1 and 13.3).
--     TakeFrameStep, TakeFramesStep      one frame is handed in, or several of one packet
--     TokenAckedStep, TokenLostStep      a packet is acknowledged, or is declared lost
use Rattle.std.specs.Prelude.{◌≡◌, ℕ, zero, suc, ◌+◌, ◌-◌, Bool, true, false, not, ◌&&◌, List, [], ◌∷◌, ◌⊎◌, Option, None, Some, is_some, Result, Ok, Err, nat_eq, nat_le, nat_lt, MatchBool}
use Rattle.qs_wire.specs.Layout.{FrameValue, PlacedValue, number_of_type}
use Rattle.qs_wire.specs.Grammar.{Fits, spelled}
use Rattle.qs_calls.specs.declared.closing.Closed.{Closed}
use Rattle.qs_calls.specs.declared.closing.Closer.{Closer}
use Rattle.qs_calls.specs.declared.closing.Closer.TheVariants.{Us, Peer}
use Rattle.qs_calls.specs.declared.closing.Closed.TheVariants.{ByUs, ByPeer, Noted}
use Rattle.qs_calls.specs.declared.making.LostFault.{LostFault}
use Rattle.qs_calls.specs.declared.making.LostFault.TheVariants as losing
use Rattle.qs_calls.specs.declared.token.Token.{Token}
use Rattle.qs_calls.specs.declared.token.Taken.{Taken}
use Rattle.qs_calls.specs.declared.token.Taken.TheVariants.{Took, Unchanged, NotOurs}
use Rattle.qs_calls.specs.declared.token.TakeFault.{TakeFault}
use Rattle.qs_calls.specs.declared.token.TakeFault.TheVariants as faults
use Rattle.qs_calls.specs.declared.token.TokenFault.{TokenFault}
use Rattle.qs_calls.specs.declared.token.TokenFault.TheVariants as tokens
use Rattle.qs_machine.specs.Ends.{End, closes}
use Rattle.qs_machine.specs.Credit.{settle}
use Rattle.qs_machine.specs.Seen.{Seen, Ack, Stream, Control, Close, Plain, seen}
use Rattle.qs_machine.specs.Verdicts.{verdict}
use Rattle.qs_machine.specs.FrameStep.{frame_taken}
use Rattle.qs_machine.specs.Owner.{Certain, first_refusal, refuse_if}
use Rattle.qs_machine.specs.Receiving.{RunsOut, closing_at, noted_of_us}
use Rattle.qs_machine.specs.Making.{LoseStep}

-- One frame (RFC 9000, sections 12.4 and 13.1)

-- values that no text has (RFC 9000, section 20.1)
abbrev pub FRAME_ENCODING_ERROR : ℕ
FRAME_ENCODING_ERROR = 0x07

-- the kinds that an end takes alone: of streams and of flow control (RFC 9000, sections 19.4, 19.5 and 19.8 to 19.14)
abbrev pub is_ours : Seen → Bool
is_ours (Ack largest ranges) = false
is_ours (Stream n offset bytes fin) = true
is_ours (Control item) = true
is_ours (Close code) = false
is_ours (Plain asks) = false

-- a frame that comes alone stands at place 0, and has the type of its canonical text (RFC 9000, section 12.4)
abbrev pub alone : FrameValue → PlacedValue
alone f = record { place = 0; frame = f; frame_type = number_of_type (spelled f).type }

-- the frame has a text, and no fault (RFC 9000, section 11.1)
abbrev pub MayTake : End → FrameValue → Type 0
MayTake e f = Fits f × (verdict e (seen f) ≡ None)

-- the code with which the frame closes the connection: no text has its values, or it has a fault (RFC 9000, sections 11.1 and 19)
abbrev pub HasFault : End → FrameValue → ℕ → Type 0
HasFault e f code = ((Fits f → ⊥) × (code ≡ FRAME_ENCODING_ERROR)) ⊎ (Fits f × (verdict e (seen f) ≡ Some code))

-- A frame takes effect, and then something changed or nothing did; or it finds no memory, or closes the connection (RFC 9000, sections
-- 11.1 and 13.1). No limit has moved yet; and that an ACK is due is the stack's own affair.
abbrev pub TakesOne : End → FrameValue → Result Taken TakeFault → End → Type 0
TakesOne e f (Ok Took) new = MayTake e f × (new ≡ frame_taken (seen f) e) × (new ≡ e → ⊥)
TakesOne e f (Ok Unchanged) new = MayTake e f × (new ≡ frame_taken (seen f) e) × (new ≡ e)
TakesOne e f (Ok NotOurs) new = ⊥
TakesOne e f (Err faults.NoMemory) new = MayTake e f × RunsOut e (seen f) new
TakesOne e f (Err (faults.Closing closing)) new = HasFault e f closing.code × (closing ≡ closing_at (alone f) closing.code) × (new ≡ closes (ByUs closing) e)
TakesOne e f (Err (faults.PeerClosed code)) new = ⊥

-- A frame of another kind changes nothing; after one of these kinds the limits move (RFC 9000, sections 4.1 and 4.6).
abbrev pub OpenTake : FrameValue → End → Result Taken TakeFault → End → Type 0
OpenTake f old answer new =
    MatchBool (is_ours (seen f))
    ((mid : End) × TakesOne old f answer mid × (new ≡ settle mid))
    ((answer ≡ Ok NotOurs) × (new ≡ old))

-- what an end that was told of a close says again (RFC 9000, section 10.2)
abbrev pub noted_fault : Closer → ℕ → TakeFault
noted_fault Us code = faults.Closing (noted_of_us code)
noted_fault Peer code = faults.PeerClosed code

-- what an end that is closed says again (RFC 9000, section 10.2)
abbrev pub closed_fault : Closed → TakeFault
closed_fault (ByUs closing) = faults.Closing closing
closed_fault (ByPeer code) = faults.PeerClosed code
closed_fault (Noted close) = noted_fault close.by close.code

-- of a closed end, or of an open one (RFC 9000, section 10.2)
abbrev pub TakeBy : Option Closed → FrameValue → End → Result Taken TakeFault → End → Type 0
TakeBy (Some closed) f old answer new = (answer ≡ Err (closed_fault closed)) × (new ≡ old)
TakeBy None f old answer new = OpenTake f old answer new

-- `take_frame` (RFC 9000, section 13.1)
abbrev pub TakeFrameStep : End → FrameValue → Result Taken TakeFault → End → Type 0
TakeFrameStep old f answer new = TakeBy old.closed f old answer new

-- Several frames (RFC 9000, section 12.4)

-- what came of two frames: one changed something, or one was taken and none did (ours)
abbrev pub of_both : Taken → Taken → Taken
of_both Took later = Took
of_both Unchanged NotOurs = Unchanged
of_both one later = later

-- what came of a frame and of those behind it, of which one may have met a fault
abbrev pub after_one : Taken → Result Taken TakeFault → Result Taken TakeFault
after_one one (Ok later) = Ok (of_both one later)
after_one one (Err fault) = Err fault

-- The frames take effect one after the other, with no limit moved between them, up to one that finds no memory or closes the connection;
-- those of other kinds are passed over (RFC 9000, section 12.4).
abbrev pub TakesEach : List FrameValue → End → Result Taken TakeFault → End → Type 0
TakesEach [] e answer new = (answer ≡ Ok NotOurs) × (new ≡ e)
TakesEach (f ∷ fs) e answer new =
    MatchBool (is_ours (seen f))
    (((mid : End) × (one : Taken) × (later : Result Taken TakeFault) × TakesOne e f (Ok one) mid × TakesEach fs mid later new × (answer ≡ after_one one later))
    ⊎ ((fault : TakeFault) × TakesOne e f (Err fault) new × (answer ≡ Err fault)))
    (TakesEach fs e answer new)

-- of a closed end, or of an open one (RFC 9000, section 10.2)
abbrev pub TakeAllBy : Option Closed → List FrameValue → End → Result Taken TakeFault → End → Type 0
TakeAllBy (Some closed) fs old answer new = (answer ≡ Err (closed_fault closed)) × (new ≡ old)
TakeAllBy None fs old answer new = (mid : End) × TakesEach fs old answer mid × (new ≡ settle mid)

-- `take_frames`: the frames of one packet, after which the limits move once (RFC 9000, sections 4.1 and 12.4)
abbrev pub TakeFramesStep : End → List FrameValue → Result Taken TakeFault → End → Type 0
TakeFramesStep old fs answer new = TakeAllBy old.closed fs old answer new

-- Tokens (RFC 9000, section 13.3)

-- the token of packet k of an end
abbrev pub token_of : End → ℕ → Token
token_of e k = record { epoch = e.tuning.epoch; first = k; number = k }

-- the end made the packets of that token: they aren't of another epoch, nor to be made yet (RFC 9000, section 13.1)
abbrev pub gave : End → Token → Bool
gave e t = nat_eq t.epoch e.tuning.epoch && (nat_le t.first t.number && nat_lt t.number e.next)

-- an ACK of those packets alone (RFC 9000, section 19.3)
abbrev pub only : Token → Seen
only t = Ack t.number ((t.first, t.number) ∷ [])

-- an end that is closed is told nothing, nor of a packet that it didn't make (RFC 9000, sections 10.2 and 13.1)
abbrev pub token_refusal : End → Token → Option TokenFault
token_refusal e t = first_refusal (refuse_if (is_some e.closed) tokens.Closed) (refuse_if (not (gave e t)) tokens.NotGiven)

-- `acked`: what an ACK of those packets alone does, in time or late, and nothing of a packet that is done. Where there is no memory some
-- of their first pieces are acknowledged (RFC 9000, sections 13.2.1 and 13.3).
abbrev pub TokenAckedStep : End → Token → Result (Unit {0}) TokenFault → End → Type 0
TokenAckedStep old t answer new =
    Certain (token_refusal old t) old answer new
    (((answer ≡ Ok tt) × (new ≡ settle (frame_taken (only t) old)))
    ⊎ ((answer ≡ Err tokens.NoMemory) × (mid : End) × RunsOut old (only t) mid × (new ≡ settle mid)))

-- what `lost` answers where `declare_lost` answers so: of a packet that is done there is nothing to tell
abbrev pub lost_answer : Result (Unit {0}) LostFault → Result (Unit {0}) TokenFault
lost_answer (Ok done) = Ok done
lost_answer (Err losing.NotOutstanding) = Ok tt
lost_answer (Err losing.NoMemory) = Err tokens.NoMemory
lost_answer (Err losing.Closed) = Err tokens.Closed

-- one packet is lost, as `declare_lost` does it (RFC 9000, section 13.3)
abbrev pub LosesOne : ℕ → End → Result (Unit {0}) TokenFault → End → Type 0
LosesOne k e answer new = (declared : Result (Unit {0}) LostFault) × LoseStep e k declared new × (answer ≡ lost_answer declared)

-- so many packets from that one on are lost, from the highest number down, up to one that finds no memory
abbrev pub LosesEach : (count first : ℕ) → End → Result (Unit {0}) TokenFault → End → Type 0
LosesEach zero first e answer new = (answer ≡ Ok tt) × (new ≡ e)
LosesEach (suc n) first e answer new =
    ((mid : End) × LosesOne (first + n) e (Ok tt) mid × LosesEach n first mid answer new)
    ⊎ ((fault : TokenFault) × LosesOne (first + n) e (Err fault) new × (answer ≡ Err fault))

-- `lost`: each of its packets is lost (RFC 9000, section 13.3)
abbrev pub TokenLostStep : End → Token → Result (Unit {0}) TokenFault → End → Type 0
TokenLostStep old t answer new = Certain (token_refusal old t) old answer new (LosesEach ((t.number + 1) - t.first) t.first old answer new)
