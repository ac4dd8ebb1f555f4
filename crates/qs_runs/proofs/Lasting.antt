-- What a receiving half knows it keeps, whatever happens: offsets, final size and reset.
use Rattle.std.proofs.lemmas.Bool.Decides.{nat_tests}
use Rattle.std.proofs.Common.{arith}
use Rattle.qs_recv.specs.Lane.{RecvLane}
use Rattle.qs_machine.specs.Ends.{End}
use Rattle.qs_machine.specs.EndStep.{Call, Answer, EndStep}
use Rattle.qs_machine.specs.Standing.{IsSound}
use Rattle.qs_machine.specs.Repeats.{SentWasWritten}
use Rattle.qs_machine.proofs.LanesAgain.{LaneAfter}
use Rattle.qs_machine.proofs.CallsCounts.{lanes_call}
use Rattle.qs_runs.proofs.Changes.{Grows, AllGrow}

-- Calls

grows_of : (l m : RecvLane) → LaneAfter l m → Grows l m
grows_of l m a = grind (arith, nat_tests)

pub call_grows : (e new : End) → IsSound e → SentWasWritten e → (call : Call) (answer : Answer call) → EndStep e call answer new → AllGrow e.recvs new.recvs
call_grows e new sound sent call answer step n l is = let (m, there, a) = lanes_call e sound sent call answer new step n l is in (m, there, grows_of l m a)
