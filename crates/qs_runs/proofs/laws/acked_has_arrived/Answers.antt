use Rattle.qs_runs.proofs.Clauses.{each_step, acked_has_arrived}
use Rattle.qs_runs.proofs.laws.acked_has_arrived.Goals as goal

pub returns : goal.returns
returns c = each_step acked_has_arrived
