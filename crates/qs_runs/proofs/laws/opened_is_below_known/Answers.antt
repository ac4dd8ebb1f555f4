use Rattle.qs_runs.proofs.Clauses.{each_step, opened_is_below_known}
use Rattle.qs_runs.proofs.laws.opened_is_below_known.Goals as goal

pub returns : goal.returns
returns c = each_step opened_is_below_known
