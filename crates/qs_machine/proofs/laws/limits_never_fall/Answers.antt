use Rattle.qs_machine.proofs.Rising.{rises_call}
use Rattle.qs_machine.proofs.laws.limits_never_fall.Goals as goal

pub returns : goal.returns
returns c = λ old call answer new step. rises_call old call answer new step
