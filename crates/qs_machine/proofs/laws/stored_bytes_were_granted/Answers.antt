use Rattle.qs_machine.proofs.Counts.{within_credit}
use Rattle.qs_machine.proofs.laws.stored_bytes_were_granted.Goals as goal

pub returns : goal.returns
returns c = λ e h. within_credit e h
