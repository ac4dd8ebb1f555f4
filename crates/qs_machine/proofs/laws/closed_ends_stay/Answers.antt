use Rattle.qs_machine.proofs.EveryCall.{closed_stays}
use Rattle.qs_machine.proofs.laws.closed_ends_stay.Goals as goal

pub returns : goal.returns
returns c = λ old call answer new is step. closed_stays old call answer new is step
