-- Of laws.
-- How the two ways into an end are one: whole payloads, and frames that come without their packet; and ACKs, and tokens.
use Rattle.std.specs.Prelude.{◌≡◌, ℕ, Bool, true, false, ◌||◌, List, [], ◌∷◌, ◌++◌, map, Option, None, Some, Ok, nat_lt}
use Rattle.std.specs.List.{AllByRecursion}
use Rattle.std.specs.FinMap as fmap
use Rattle.std.specs.FinSet as set
use Rattle.qs_wire.specs.Layout.{FrameValue, ack, ack_ranges_of}
use Rattle.qs_wire.specs.declared.frame.EcnCounts.{EcnCounts}
use Rattle.qs_wire.specs.Grammar.{AreBytes, frames_of}
use Rattle.qs_wire.specs.Reading.{reading_of}
use Rattle.qs_calls.specs.declared.closing.Received.TheVariants.{Done}
use Rattle.qs_calls.specs.declared.token.Taken.{Taken}
use Rattle.qs_calls.specs.declared.token.Token.{Token}
use Rattle.qs_calls.specs.Tokens.{joined}
use Rattle.qs_machine.specs.Ends.{End}
use Rattle.qs_machine.specs.Credit.{settle}
use Rattle.qs_machine.specs.Seen.{Seen, Ack, seen, seen_all, any_asks}
use Rattle.qs_machine.specs.FrameStep.{NoFault, held, is_named, frame_taken, frames_taken}
use Rattle.qs_machine.specs.Recording.{recorded}
use Rattle.qs_machine.specs.Receiving.{ReceiveStep}
use Rattle.qs_machine.specs.Alone.{is_ours, MayTake, TakeFrameStep, TakeFramesStep, token_refusal, TokenAckedStep}
use Rattle.qs_machine.specs.Standing.{IsSound}
use Rattle.qs_machine.specs.Repeats.{SentWasWritten}
use Rattle.qs_machine.specs.SettledLimits.{LimitsAreSettled}

-- the frames that are read in a payload
abbrev pub frames_in : List ℕ → List FrameValue
frames_in text = frames_of (reading_of text).left

-- the end is open, and told the number apart and didn't process it yet
pub record IsNew (e : End) (k : ℕ) : Type 0 where
  pub unclosed : e.closed ≡ None
  pub above : nat_lt k e.floor ≡ false
  pub unkept : set.contains e.done k ≡ false

-- A payload that is processed is its frames, which take effect one after the other, each without a fault; then the limits move, once; and
-- then its number is kept (RFC 9000, sections 12.4 and 13.1).
abbrev pub APayloadIsItsFrames : Type 0
APayloadIsItsFrames =
    (old new : End) (k : ℕ) (text : List ℕ) → IsNew old k → ReceiveStep old k text (Ok Done) new →
    NoFault old (seen_all (frames_in text))
    × ((reading_of text).fault ≡ None)
    × (new ≡ recorded k (any_asks (seen_all (frames_in text))) (settle (frames_taken (seen_all (frames_in text)) old)))

abbrev pub is_ack : Seen → Bool
is_ack (Ack largest ranges) = true
is_ack f = false

abbrev pub HaveNoAck : List FrameValue → Type 0
HaveNoAck fs = AllByRecursion (λ f. is_ack (seen f) ≡ false) fs

-- A payload without an ACK that is processed is `take_frames` of its frames, and then its number (RFC 9000, section 13.1).
abbrev pub APayloadIsTakeFrames : Type 0
APayloadIsTakeFrames =
    (old new : End) (k : ℕ) (text : List ℕ) → IsNew old k → AreBytes text → HaveNoAck (frames_in text) → ReceiveStep old k text (Ok Done) new →
    (taken : Taken) × (mid : End) × TakeFramesStep old (frames_in text) (Ok taken) mid × (new ≡ recorded k (any_asks (seen_all (frames_in text))) mid)

-- A payload of one frame that is processed is `take_frame` of it, and then its number (RFC 9000, section 13.1).
abbrev pub AFrameIsItsPayload : Type 0
AFrameIsItsPayload =
    (old new : End) (k : ℕ) (text : List ℕ) (f : FrameValue) → IsNew old k → AreBytes text → frames_in text ≡ f ∷ [] → is_ours (seen f) ≡ true → ReceiveStep old k text (Ok Done) new →
    (taken : Taken) × (mid : End) × TakeFrameStep old f (Ok taken) mid × (new ≡ recorded k true mid)

-- Acknowledgements (RFC 9000, sections 13.2.1, 13.3 and 19.3)

-- the token of a range of an end's packets
abbrev pub token_from : End → ℕ × ℕ → Token
token_from e range = record { epoch = e.tuning.epoch; first = range.0; number = range.1 }

-- An ACK of one range is its token, be it in time or late (RFC 9000, sections 13.2.1 and 13.3).
abbrev pub AnAckIsItsToken : Type 0
AnAckIsItsToken = (e new : End) (largest : ℕ) (range : ℕ × ℕ) → TokenAckedStep e (token_from e range) (Ok tt) new → new ≡ settle (frame_taken (Ack largest (range ∷ [])) e)

-- the range of the packets of a token (RFC 9000, section 19.3.1)
abbrev pub range_of : Token → ℕ × ℕ
range_of t = (t.first, t.number)

-- tokens are acknowledged, one call after the other, and each call finds memory (RFC 9000, section 13.3)
abbrev pub TellsEach : List Token → End → End → Type 0
TellsEach [] e new = new ≡ e
TellsEach (t ∷ ts) e new = (mid : End) × TokenAckedStep e t (Ok tt) mid × TellsEach ts mid new

-- the end is open and gave each of these tokens (RFC 9000, sections 10.2 and 13.1)
abbrev pub MayBeTold : End → List Token → Type 0
MayBeTold e ts = AllByRecursion (λ t. token_refusal e t ≡ None) ts

-- The tokens name the same of an end's packets that are outstanding or lost as an ACK's ranges do (RFC 9000, section 19.3.1).
abbrev pub AreTokensOf : End → List (ℕ × ℕ) → List Token → Type 0
AreTokensOf e ranges ts = (late : Bool) (k : ℕ) → fmap.contains_key (held late e) k ≡ true → is_named (map range_of ts) k ≡ is_named ranges k

-- An ACK of any ranges is the tokens of its packets: however they are joined, in whatever order they are told, and also of a packet more than
-- once. The ACK takes all outstanding packets before the lost ones, and then the limits move, once; tokens take packet after packet, and the
-- limits move after each (RFC 9000, sections 4.1, 13.2.1, 13.3 and 19.3).
abbrev pub AnAckIsItsTokens : Type 0
AnAckIsItsTokens =
    (e new : End) (largest : ℕ) (ranges : List (ℕ × ℕ)) (t : Token) (ts : List Token) → SentWasWritten e → AreTokensOf e ranges (t ∷ ts)
    → TellsEach (t ∷ ts) e new → new ≡ settle (frame_taken (Ack largest ranges) e)

-- And such tokens may be told so, unless one is refused at first (RFC 9000, sections 10.2, 13.1 and 13.3).
abbrev pub AnAckMayBeTold : Type 0
AnAckMayBeTold =
    (e : End) (largest : ℕ) (ranges : List (ℕ × ℕ)) (t : Token) (ts : List Token) → SentWasWritten e → AreTokensOf e ranges (t ∷ ts)
    → MayBeTold e (t ∷ ts) → TellsEach (t ∷ ts) e (settle (frame_taken (Ack largest ranges) e))

-- The ranges of an ACK that has no fault are such tokens, as they stand; there is one at least (RFC 9000, sections 13.1 and 19.3.1).
abbrev pub ItsRangesAreTokens : Type 0
ItsRangesAreTokens =
    (e : End) (largest delay : ℕ) (numbers : List ℕ) (ecn : Option EcnCounts) → e.closed ≡ None → MayTake e (ack largest delay numbers ecn)
    → (t : Token) × (ts : List Token) × (map (token_from e) (ack_ranges_of largest numbers) ≡ t ∷ ts) × MayBeTold e (t ∷ ts) × AreTokensOf e (ack_ranges_of largest numbers) (t ∷ ts)

-- A token that was joined of two, each of which may be told, is the two, told one after the other, whichever comes first (RFC 9000, sections
-- 13.3 and 19.3.1).
abbrev pub AJoinedTokenIsItsParts : Type 0
AJoinedTokenIsItsParts =
    (e new : End) (t next whole : Token) → SentWasWritten e → joined t next ≡ Some whole → MayBeTold e (t ∷ next ∷ [])
    → TokenAckedStep e whole (Ok tt) new → TellsEach (t ∷ next ∷ []) e new × TellsEach (next ∷ t ∷ []) e new

-- no frame is an ACK, or of streams or flow control (RFC 9000, section 19)
abbrev pub AreOthers : List FrameValue → Type 0
AreOthers fs = AllByRecursion (λ f. (is_ack (seen f) || is_ours (seen f)) ≡ false) fs

-- A payload that has one ACK, with no frame of streams or flow control before it, and is processed is the tokens of the ACK's packets, then
-- `take_frames` of its frames, which passes over the ACK, and then its number (RFC 9000, sections 12.4, 13.1 and 13.3). Between calls the
-- limits of an end are settled, so they move no sooner with the tokens than with the payload. A STOP_SENDING before the ACK
-- would reset a half that the ACK is to complete (section 3.5; `AStopIsntMoved`).
abbrev pub APayloadIsTokensAndFrames : Type 0
APayloadIsTokensAndFrames =
    (old new : End) (k : ℕ) (text : List ℕ) (before fs : List FrameValue) (f : FrameValue) (largest : ℕ) (ranges : List (ℕ × ℕ)) (t : Token) (ts : List Token)
    → IsNew old k → AreBytes text → IsSound old → SentWasWritten old → LimitsAreSettled old
    → frames_in text ≡ before ++ f ∷ fs → AreOthers before → seen f ≡ Ack largest ranges → HaveNoAck fs → AreTokensOf old ranges (t ∷ ts) → MayBeTold old (t ∷ ts)
    → ReceiveStep old k text (Ok Done) new
    → (told : End) × (taken : Taken) × (mid : End) × TellsEach (t ∷ ts) old told × TakeFramesStep told (frames_in text) (Ok taken) mid × (new ≡ recorded k (any_asks (seen_all (frames_in text))) mid)
