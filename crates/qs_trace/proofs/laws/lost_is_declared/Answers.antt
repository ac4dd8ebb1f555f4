use Rattle.qs_trace.proofs.Told.{lost_is_declared}
use Rattle.qs_trace.proofs.laws.lost_is_declared.Goals as goal

pub returns : goal.returns
returns c = lost_is_declared
