use Rattle.qs_machine.proofs.Counts.{new_ends_settled}
use Rattle.qs_machine.proofs.CallsCounts.{settled_call}
use Rattle.qs_machine.proofs.laws.counts_are_settled.Goals as goal

pub returns-clause-new : goal.returns-clause-new
returns-clause-new c = λ role s t p e made. new_ends_settled role s t p e made

pub returns-clause-calls : goal.returns-clause-calls
returns-clause-calls c = λ old call answer new h step. settled_call old call answer new h step
