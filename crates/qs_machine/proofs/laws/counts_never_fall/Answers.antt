use Rattle.qs_machine.proofs.CallsCounts.{counts_call}
use Rattle.qs_machine.proofs.laws.counts_never_fall.Goals as goal

pub returns : goal.returns
returns c = λ old call answer new sound sent step. counts_call old sound sent call answer new step
