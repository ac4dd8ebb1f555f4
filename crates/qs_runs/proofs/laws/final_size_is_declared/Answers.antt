use Rattle.qs_runs.proofs.Clauses.{each_step, final_size_is_declared}
use Rattle.qs_runs.proofs.laws.final_size_is_declared.Goals as goal

pub returns : goal.returns
returns c = each_step final_size_is_declared
