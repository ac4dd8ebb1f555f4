use Rattle.qs_runs.proofs.Clauses.{final_sizes}
use Rattle.qs_runs.proofs.laws.final_sizes_agree.Goals as goal

pub returns : goal.returns
returns c = final_sizes
