-- Of laws.
-- Laws on ends and their calls.
use Rattle.std.specs.Prelude.{◌≡◌, ℕ, ◌≤◌, Bool, true, false, List, [], ◌++◌, length, ◌⊎◌, Option, None, Some, is_some, Result, Ok, Err}
use Rattle.std.specs.List.{AllByRecursion}
use Rattle.std.specs.FinMap as fmap
use Rattle.qs_wire.specs.Layout.{FrameValue, PlacedValue}
use Rattle.qs_wire.specs.Grammar.{frames_of}
use Rattle.qs_wire.specs.Reading.{reading_of}
use Rattle.qs_wire.specs.declared.stream_id.Role.{Role}
use Rattle.qs_recv.specs.Lane.{RecvLane, state as recv_state}
use Rattle.qs_recv.specs.declared.half.RecvState.{RecvState}
use Rattle.qs_recv.specs.declared.half.RecvState.TheVariants.{DataRead, ResetRead}
use Rattle.qs_send.specs.Lane.{Sending, state as send_state}
use Rattle.qs_send.specs.Sound.{IsLawful}
use Rattle.qs_send.specs.declared.parts.SendState.{SendState}
use Rattle.qs_send.specs.declared.parts.SendState.TheVariants.{DataRecvd, ResetRecvd}
use Rattle.qs_calls.specs.declared.settings.Settings.{Settings}
use Rattle.qs_calls.specs.declared.settings.Tuning.{Tuning}
use Rattle.qs_calls.specs.declared.settings.PeerLimits.{PeerLimits}
use Rattle.qs_calls.specs.declared.closing.Closing.{Closing}
use Rattle.qs_calls.specs.declared.closing.Received.{Received}
use Rattle.qs_calls.specs.declared.closing.Received.TheVariants.{Done}
use Rattle.qs_calls.specs.declared.filling.Fill.{Fill}
use Rattle.qs_calls.specs.declared.filling.Filled.{Filled}
use Rattle.qs_calls.specs.declared.making.Made.{Made}
use Rattle.qs_calls.specs.declared.making.MakeFault.{MakeFault}
use Rattle.qs_calls.specs.declared.making.LostFault.{LostFault}
use Rattle.qs_calls.specs.declared.making.LostFault.TheVariants.{NotOutstanding}
use Rattle.qs_machine.specs.Ends.{End, end_made, wide_end_made}
use Rattle.qs_machine.specs.Credit.{settle, recv_ended, send_ended}
use Rattle.qs_machine.specs.Seen.{Seen, Ack, seen, seen_all, any_asks}
use Rattle.qs_machine.specs.Verdicts.{verdict}
use Rattle.qs_machine.specs.FrameStep.{NoFault, frames_taken}
use Rattle.qs_machine.specs.Receiving.{TakesPayload, EndsBy, ReceiveStep}
use Rattle.qs_machine.specs.Making.{MakeStep, MakeAckStep, ClaimStep, LoseStep}
use Rattle.qs_machine.specs.Filling.{FillStep, as_made}
use Rattle.qs_machine.specs.EndStep.{Call, Answer, EndStep, Claim, ReadUpTo, Consume, TakeFrame, TakeFrames}
use Rattle.qs_machine.specs.Alone.{is_ours}
use Rattle.qs_calls.specs.declared.token.Taken.TheVariants.{NotOurs}
use Rattle.qs_machine.specs.Standing.{IsSound, IsWithinCredit, CountsAreSettled, LimitsRise, CountsRise}
use Rattle.qs_machine.specs.Repeats.{SentWasWritten, AreAmong, Resumes, OnlyRecords}
use Rattle.qs_calls.specs.Settings.{default_tuning}

-- a new end of wide ranges is sound
abbrev pub NewEndsAreSound : Type 0
NewEndsAreSound = (role : Role) (s : Settings) (t : Tuning) (p : PeerLimits) (e : End) → wide_end_made role s t p ≡ Ok e → IsSound e

-- an end that is made of a script's ranges is made of the wide ones, too
abbrev pub NewEndsAreWide : Type 0
NewEndsAreWide = (role : Role) (s : Settings) (p : PeerLimits) (e : End) → end_made role s p ≡ Ok e → wide_end_made role s default_tuning p ≡ Ok e

-- every call leaves a sound end sound, whoever made the payloads that come to it
abbrev pub CallsKeepEndsSound : Type 0
CallsKeepEndsSound = (old : End) (call : Call) (answer : Answer call) (new : End) → IsSound old → EndStep old call answer new → IsSound new

-- a sound end stores at most what it granted, and grants no more streams than in its lifetime
abbrev pub StoredBytesWereGranted : Type 0
StoredBytesWereGranted = (e : End) → IsSound e → IsWithinCredit e

-- the last states of a receiving half (RFC 9000, section 3.2), and of a sending one (section 3.1)
abbrev pub is_last_recv : RecvState → Bool
is_last_recv DataRead = true
is_last_recv ResetRead = true
is_last_recv state = false

abbrev pub is_last_send : SendState → Bool
is_last_send DataRecvd = true
is_last_send ResetRecvd = true
is_last_send state = false

-- a half ended exactly where it is in one of its last states
pub record EndedIsLastState : Type 0 where
  pub recv : (l : RecvLane) → recv_ended l ≡ is_last_recv (recv_state l)
  pub send : (s : Sending) → IsLawful s → send_ended s.lane ≡ is_last_send (send_state s.lane)

-- a new end grants as many streams as at first, when none ended
abbrev pub NewEndsSettleCounts : Type 0
NewEndsSettleCounts = (role : Role) (s : Settings) (t : Tuning) (p : PeerLimits) (e : End) → wide_end_made role s t p ≡ Ok e → CountsAreSettled e

-- as each call ends, the granted counts are what the streams that ended make them
abbrev pub CallsSettleCounts : Type 0
CallsSettleCounts = (old : End) (call : Call) (answer : Answer call) (new : End) → CountsAreSettled old → EndStep old call answer new → CountsAreSettled new

-- no call of a sound end lowers a count that was granted
abbrev pub CountsNeverFall : Type 0
CountsNeverFall =
    (old : End) (call : Call) (answer : Answer call) (new : End) → IsSound old → SentWasWritten old → EndStep old call answer new → CountsRise old new

-- no call lowers a limit
abbrev pub LimitsNeverFall : Type 0
LimitsNeverFall = (old : End) (call : Call) (answer : Answer call) (new : End) → EndStep old call answer new → LimitsRise old new

-- a read changes nothing, or where the owner chose to read on what was taken, and the limits that follow it
abbrev pub StaysButRead : Bool → End → End → Type 0
StaysButRead true old new =
    new ≡ record old { recvs = new.recvs; granted = new.granted; granted_bidi = new.granted_bidi; granted_uni = new.granted_uni }
StaysButRead false old new = new ≡ old

-- nothing changes, but the number of the next packet where one is claimed, and what a read changes
abbrev pub StaysOnceClosed : End → Call → End → Type 0
StaysOnceClosed old Claim new = new ≡ record old { next = new.next }
StaysOnceClosed old (ReadUpTo n size) new = StaysButRead old.tuning.reads_when_closed old new
StaysOnceClosed old (Consume n most) new = StaysButRead old.tuning.reads_when_closed old new
StaysOnceClosed old call new = new ≡ old

-- after a closing nothing changes, but that numbers are claimed, and that an owner who chose so reads on
abbrev pub ClosedEndsStay : Type 0
ClosedEndsStay =
    (old : End) (call : Call) (answer : Answer call) (new : End) → is_some old.closed ≡ true → EndStep old call answer new → StaysOnceClosed old call new

-- A payload with an ACK alone is a packet of `make_packet` with no more room than it takes, or there was none to make and nothing changed
-- (RFC 9000, section 13.2).
abbrev pub AnAckIsAPacket : Type 0
AnAckIsAPacket =
    (old new : End) (first delay room : ℕ) (answer : Result (Option Made) MakeFault) (text : List ℕ) → MakeAckStep old delay room answer text new →
    MakeStep old first delay (length text) answer text new ⊎ ((answer ≡ Ok None) × (text ≡ []) × (new ≡ old))

-- what `make_packet` answers of a packet that was filled so
abbrev pub made_as : Result (Option Filled) MakeFault → Result (Option Made) MakeFault
made_as (Ok None) = Ok None
made_as (Ok (Some filled)) = Ok (Some (as_made filled))
made_as (Err fault) = Err fault

-- What is filled in is a packet of `make_packet` with no more room than it takes, or nothing changed (RFC 9000, section 12.4).
abbrev pub AFillIsAPacket : Type 0
AFillIsAPacket =
    (old new : End) (want : Fill) (room : ℕ) (answer : Result (Option Filled) MakeFault) (text : List ℕ) → FillStep old want room answer text new →
    MakeStep old want.first 0 (length text) (made_as answer) text new ⊎ (new ≡ old)

-- once a number was claimed
pub record ClaimedNumbersAreKnown : Type 0 where
  -- an ACK of it, or of a number before it, is no fault (RFC 9000, section 13.1)
  pub acked : (old new : End) (number largest : ℕ) (ranges : List (ℕ × ℕ)) → ClaimStep old (Ok number) new → largest ≤ number → verdict new (Ack largest ranges) ≡ None
  -- and no packet of that number is outstanding, where none was before
  pub not_outstanding : (old mid new : End) (number : ℕ) (answer : Result (Unit {0}) LostFault) → fmap.get old.outstanding old.next ≡ None → old.closed ≡ None
      → ClaimStep old (Ok number) mid → LoseStep mid number answer new → answer ≡ Err NotOutstanding

-- Of the frames of a payload the first ones took effect, one after the other and each without a fault; and then the processing ended.
abbrev pub PayloadsAreTakenInOrder : Type 0
PayloadsAreTakenInOrder =
    (number : ℕ) (payload : List ℕ) (old : End) (result : Result Received Closing) (new : End) → TakesPayload number payload old result new →
    (taken : List PlacedValue) × (left : List PlacedValue)
    × ((reading_of payload).left ≡ taken ++ left)
    × NoFault old (seen_all (frames_of taken))
    × EndsBy number (reading_of payload).fault (any_asks (seen_all (frames_of taken))) left (frames_taken (seen_all (frames_of taken)) old) result new

-- all data of a new end that outstanding packets carried, or lost ones, was written, as there is none
abbrev pub NewEndsSentNothing : Type 0
NewEndsSentNothing = (role : Role) (s : Settings) (t : Tuning) (p : PeerLimits) (e : End) → wide_end_made role s t p ≡ Ok e → SentWasWritten e

-- no call has data outstanding, or lost, that wasn't written
abbrev pub CallsSendWhatWasWritten : Type 0
CallsSendWhatWasWritten = (old : End) (call : Call) (answer : Answer call) (new : End) → SentWasWritten old → EndStep old call answer new → SentWasWritten new

-- Once frames took effect, one after the other and each without a fault, any of them may come again, in any order and more than once:
-- none has a fault, and nothing changes (RFC 9000, sections 2.2, 3.2, 4.1 and 13.3).
abbrev pub EffectsRepeat : Type 0
EffectsRepeat =
    (e : End) (frames again : List Seen) → IsSound e → SentWasWritten e → NoFault e frames → AreAmong again frames →
    NoFault (frames_taken frames e) again × (frames_taken again (frames_taken frames e) ≡ frames_taken frames e)

-- Of the frames of a payload the first ones took effect, and then the processing ended. Where the payload comes again after the call,
-- under its number or another one, these frames change nothing, and the processing goes on with the frames that were left.
abbrev pub PayloadsRepeat : Type 0
PayloadsRepeat =
    (number again : ℕ) (payload : List ℕ) (old mid : End) (result : Result Received Closing) → IsSound old → SentWasWritten old → TakesPayload number payload old result mid →
    (taken : List PlacedValue) × (left : List PlacedValue)
    × ((reading_of payload).left ≡ taken ++ left)
    × EndsBy number (reading_of payload).fault (any_asks (seen_all (frames_of taken))) left (frames_taken (seen_all (frames_of taken)) old) result mid
    × ((next : Result Received Closing) (new : End) → TakesPayload again payload (settle mid) next new →
    Resumes again (reading_of payload).fault (any_asks (seen_all (frames_of taken))) (settle mid) left next new)

-- A payload that was processed and comes at once again, under its number or another one, is no fault, and changes nothing but which
-- numbers are kept and whether an ACK is due.
abbrev pub ProcessedPayloadsRepeat : Type 0
ProcessedPayloadsRepeat =
    (number again : ℕ) (payload : List ℕ) (old new later : End) (answer : Result Received Closing) → IsSound old → SentWasWritten old → ReceiveStep old number payload (Ok Done) new → ReceiveStep new again payload answer later →
    OnlyRecords again (any_asks (seen_all (frames_of (reading_of payload).left))) answer new later

-- Frames of a stack's own

-- a frame of a kind that isn't the end's own: PADDING, PING, ACK, CRYPTO, CONNECTION_CLOSE and the like (RFC 9000, section 12.4)
abbrev pub IsForeign : Seen → Type 0
IsForeign f = is_ours f ≡ false

-- handed in alone, such a frame is answered NotOurs, and leaves an open end as it was (RFC 9000, section 12.4)
abbrev pub ForeignFramesTellNothing : Type 0
ForeignFramesTellNothing =
    (old new : End) (f : FrameValue) (answer : Answer (TakeFrame f)) → old.closed ≡ None → IsForeign (seen f) → EndStep old (TakeFrame f) answer new →
    (answer ≡ Ok NotOurs) × (new ≡ old)

-- and several of them, but that limits settle
abbrev pub ForeignFramesSettle : Type 0
ForeignFramesSettle =
    (old new : End) (fs : List FrameValue) (answer : Answer (TakeFrames fs)) → old.closed ≡ None → AllByRecursion IsForeign (seen_all fs) → EndStep old (TakeFrames fs) answer new →
    (answer ≡ Ok NotOurs) × (new ≡ settle old)
