use Rattle.qs_machine.proofs.Again.{payloads_repeat as resumes}
use Rattle.qs_machine.proofs.laws.payloads_repeat.Goals as goal

pub returns : goal.returns
returns c = λ number again payload old mid result sound sent takes. resumes number again payload old mid result sound sent takes
