use Rattle.qs_runs.proofs.Clauses.{each_step, read_is_written}
use Rattle.qs_runs.proofs.laws.read_is_written.Goals as goal

pub returns : goal.returns
returns c = each_step read_is_written
