use Rattle.qs_machine.proofs.Claims.{claimed_known}
use Rattle.qs_machine.proofs.laws.claimed_numbers_are_known.Goals as goal

pub returns : goal.returns
returns c = claimed_known
