use Rattle.qs_machine.proofs.SettledLimits.{new_ends_settled, calls_settle}
use Rattle.qs_machine.proofs.laws.limits_are_settled.Goals as goal

pub returns-clause-new : goal.returns-clause-new
returns-clause-new c = λ role s t p e made. new_ends_settled role s t p e made

pub returns-clause-calls : goal.returns-clause-calls
returns-clause-calls c = λ old call answer new h step. calls_settle old call answer new h step
