use Rattle.qs_progress.proofs.Ending.{calls_come_to_an_end}
use Rattle.qs_progress.proofs.laws.calls_come_to_an_end.Goals as goal

pub returns : goal.returns
returns c = calls_come_to_an_end
