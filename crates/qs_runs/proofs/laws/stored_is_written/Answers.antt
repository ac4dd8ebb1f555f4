use Rattle.qs_runs.proofs.Clauses.{each_step, stored_is_written}
use Rattle.qs_runs.proofs.laws.stored_is_written.Goals as goal

pub returns : goal.returns
returns c = each_step stored_is_written
