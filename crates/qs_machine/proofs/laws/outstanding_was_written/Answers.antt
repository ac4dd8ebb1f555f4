use Rattle.qs_machine.proofs.SentCalls.{keeps_call, new_keeps}
use Rattle.qs_machine.proofs.laws.outstanding_was_written.Goals as goal

pub returns-clause-new : goal.returns-clause-new
returns-clause-new c = λ role s p e made. new_keeps role s p e made

pub returns-clause-calls : goal.returns-clause-calls
returns-clause-calls c = λ old call answer new h step. keeps_call old call answer new step h
