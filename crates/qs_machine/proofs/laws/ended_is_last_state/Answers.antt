use Rattle.qs_machine.proofs.EndedHalves.{ended_is_last}
use Rattle.qs_machine.proofs.laws.ended_is_last_state.Goals as goal

pub returns : goal.returns
returns c = ended_is_last
