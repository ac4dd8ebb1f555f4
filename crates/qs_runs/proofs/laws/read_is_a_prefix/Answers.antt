use Rattle.qs_runs.proofs.Clauses.{prefix}
use Rattle.qs_runs.proofs.laws.read_is_a_prefix.Goals as goal

pub returns : goal.returns
returns c = prefix
