-- Trusted.
-- The calls of an end, and what each may answer and leave. Of RFC 9000, for the whole file: section 2.4, on what is done with streams,
-- and section 13, on packets that come, are made and are lost.
use Rattle.std.specs.Prelude.{◌≡◌, ℕ, List, Option, Result}
use Rattle.qs_wire.specs.Layout.{FrameValue}
use Rattle.qs_wire.specs.declared.stream_id.Dir.{Dir}
use Rattle.qs_recv.specs.declared.half.Read.{Read}
use Rattle.qs_recv.specs.declared.half.Peek.{Peek as Peeked}
use Rattle.qs_calls.specs.declared.closing.Closing.{Closing}
use Rattle.qs_calls.specs.declared.closing.Received.{Received}
use Rattle.qs_calls.specs.declared.closing.NotedClose.{NotedClose}
use Rattle.qs_calls.specs.declared.filling.Fill.{Fill}
use Rattle.qs_calls.specs.declared.filling.Filled.{Filled}
use Rattle.qs_calls.specs.declared.making.Made.{Made}
use Rattle.qs_calls.specs.declared.making.MakeFault.{MakeFault}
use Rattle.qs_calls.specs.declared.making.LostFault.{LostFault}
use Rattle.qs_calls.specs.declared.reading.Consumed.{Consumed}
use Rattle.qs_calls.specs.declared.report.LaneReport.{LaneReport}
use Rattle.qs_calls.specs.declared.settings.PeerLimits.{PeerLimits}
use Rattle.qs_calls.specs.declared.settings.RaiseFault.{RaiseFault}
use Rattle.qs_calls.specs.declared.settings.SetFault.{SetFault}
use Rattle.qs_calls.specs.declared.token.Taken.{Taken}
use Rattle.qs_calls.specs.declared.token.TakeFault.{TakeFault}
use Rattle.qs_calls.specs.declared.token.Token.{Token}
use Rattle.qs_calls.specs.declared.token.TokenFault.{TokenFault}
use Rattle.qs_calls.specs.declared.uses.OpenFault.{OpenFault}
use Rattle.qs_calls.specs.declared.uses.UseFault.{UseFault}
use Rattle.qs_machine.specs.Ends.{End}
use Rattle.qs_machine.specs.Credit.{spent, all_stored, granted_streams}
use Rattle.qs_machine.specs.Owner.{OpenStep, AcceptStep, AcceptOfStep, WriteStep, FinishStep, ResetStep, StopStep, StopAndDiscardStep, ReadStep, TakesBytes}
use Rattle.qs_machine.specs.Asking.{IsPeeked}
use Rattle.qs_machine.specs.Receiving.{ReceiveStep, noted_closed}
use Rattle.qs_machine.specs.Making.{MakeStep, ClaimStep, LoseStep, ClosePayload, MakeAckStep}
use Rattle.qs_machine.specs.Filling.{FillStep}
use Rattle.qs_machine.specs.Alone.{TakeFrameStep, TakeFramesStep, TokenAckedStep, TokenLostStep}
use Rattle.qs_machine.specs.Reports.{lane_report}
use Rattle.qs_machine.specs.Raising.{RaiseStep}
use Rattle.qs_machine.specs.Setting.{Setting, SetStep}

-- a call of an end; of a slice that is written into only what counts, its size or its bytes
pub data Call : Type 0 where
  Open : (dir : Dir) → Call
  Accept : Call
  AcceptOf : (dir : Dir) → Call
  Write : (stream : ℕ) (bytes : List ℕ) → Call
  Finish : (stream : ℕ) → Call
  Reset : (stream code : ℕ) → Call
  Stop : (stream code : ℕ) → Call
  StopAndDiscard : (stream code : ℕ) → Call
  ReadUpTo : (stream size : ℕ) → Call
  Consume : (stream most : ℕ) → Call
  Peek : (stream : ℕ) → Call
  Receive : (number : ℕ) (payload : List ℕ) → Call
  TakeFrame : (frame : FrameValue) → Call
  TakeFrames : (frames : List FrameValue) → Call
  TokenAcked : (token : Token) → Call
  TokenLost : (token : Token) → Call
  Make : (first delay room : ℕ) → Call
  MakeAck : (delay room : ℕ) → Call
  FillIn : (want : Fill) (room : ℕ) → Call
  Lose : (number : ℕ) → Call
  Claim : Call
  RaiseLimits : (limits : PeerLimits) → Call
  Set : (setting : Setting) → Call
  NoteClosed : (close : NotedClose) → Call
  ClosingPayload : (slice : List ℕ) → Call
  Stored : Call
  Granted : Call
  Spent : Call
  GrantedStreams : (dir : Dir) → Call
  Report : (stream : ℕ) → Call

-- what the call answers, with the bytes that it wrote into a slice
abbrev pub Answer : Call → Type 0
Answer (Open d) = Result ℕ OpenFault
Answer Accept = Option ℕ
Answer (AcceptOf d) = Option ℕ
Answer (Write n bytes) = Result ℕ UseFault
Answer (Finish n) = Result (Unit {0}) UseFault
Answer (Reset n code) = Result (Unit {0}) UseFault
Answer (Stop n code) = Result (Unit {0}) UseFault
Answer (StopAndDiscard n code) = Result (Unit {0}) UseFault
Answer (ReadUpTo n size) = Result Read UseFault × List ℕ
Answer (Consume n most) = Result Consumed UseFault × List ℕ
Answer (Peek n) = Result Peeked UseFault
Answer (Receive k payload) = Result Received Closing
Answer (TakeFrame f) = Result Taken TakeFault
Answer (TakeFrames fs) = Result Taken TakeFault
Answer (TokenAcked t) = Result (Unit {0}) TokenFault
Answer (TokenLost t) = Result (Unit {0}) TokenFault
Answer (Make first delay room) = Result (Option Made) MakeFault × List ℕ
Answer (MakeAck delay room) = Result (Option Made) MakeFault × List ℕ
Answer (FillIn want room) = Result (Option Filled) MakeFault × List ℕ
Answer (Lose k) = Result (Unit {0}) LostFault
Answer Claim = Result ℕ MakeFault
Answer (RaiseLimits p) = Result (Unit {0}) RaiseFault
Answer (Set x) = Result (Unit {0}) SetFault
Answer (NoteClosed close) = Unit {0}
Answer (ClosingPayload slice) = Option ℕ × List ℕ
Answer Stored = ℕ
Answer Granted = ℕ
Answer Spent = ℕ
Answer (GrantedStreams d) = ℕ
Answer (Report n) = Option LaneReport

-- The call may answer so and lead from old to new.
abbrev pub EndStep : End → (call : Call) → Answer call → End → Type 0
EndStep old (Open d) answer new = OpenStep old d answer new
EndStep old Accept answer new = AcceptStep old answer new
EndStep old (AcceptOf d) answer new = AcceptOfStep old d answer new
EndStep old (Write n bytes) answer new = WriteStep old n bytes answer new
EndStep old (Finish n) answer new = FinishStep old n answer new
EndStep old (Reset n code) answer new = ResetStep old n code answer new
EndStep old (Stop n code) answer new = StopStep old n code answer new
EndStep old (StopAndDiscard n code) answer new = StopAndDiscardStep old n code answer new
EndStep old (ReadUpTo n size) answer new = ReadStep old n size answer.0 answer.1 new
EndStep old (Consume n most) answer new = TakesBytes old n most answer.0 answer.1 new
EndStep old (Peek n) answer new = IsPeeked old n answer × (new ≡ old)
EndStep old (Receive k payload) answer new = ReceiveStep old k payload answer new
EndStep old (TakeFrame f) answer new = TakeFrameStep old f answer new
EndStep old (TakeFrames fs) answer new = TakeFramesStep old fs answer new
EndStep old (TokenAcked t) answer new = TokenAckedStep old t answer new
EndStep old (TokenLost t) answer new = TokenLostStep old t answer new
EndStep old (Make first delay room) answer new = MakeStep old first delay room answer.0 answer.1 new
EndStep old (MakeAck delay room) answer new = MakeAckStep old delay room answer.0 answer.1 new
EndStep old (FillIn want room) answer new = FillStep old want room answer.0 answer.1 new
EndStep old (Lose k) answer new = LoseStep old k answer new
EndStep old Claim answer new = ClaimStep old answer new
EndStep old (RaiseLimits p) answer new = RaiseStep old p answer new
EndStep old (Set x) answer new = SetStep old x answer new
EndStep old (NoteClosed close) answer new = new ≡ noted_closed close old
EndStep old (ClosingPayload slice) answer new = ClosePayload old slice answer.0 answer.1 × (new ≡ old)
EndStep old Stored answer new = (answer ≡ all_stored old) × (new ≡ old)
EndStep old Granted answer new = (answer ≡ old.granted) × (new ≡ old)
EndStep old Spent answer new = (answer ≡ spent old) × (new ≡ old)
EndStep old (GrantedStreams d) answer new = (answer ≡ granted_streams old d) × (new ≡ old)
EndStep old (Report n) answer new = (answer ≡ lane_report old n) × (new ≡ old)
