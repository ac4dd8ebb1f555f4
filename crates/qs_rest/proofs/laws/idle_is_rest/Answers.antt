use Rattle.qs_rest.proofs.Idle.{idle_rests}
use Rattle.qs_rest.proofs.laws.idle_is_rest.Goals as goal

pub returns : goal.returns
returns c = idle_rests
