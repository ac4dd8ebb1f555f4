use Rattle.qs_machine.proofs.Again.{processed_repeat}
use Rattle.qs_machine.proofs.laws.processed_payloads_repeat.Goals as goal

pub returns : goal.returns
returns c = λ number again payload old new later answer sound sent step next. processed_repeat number again payload old new later answer sound sent step next
