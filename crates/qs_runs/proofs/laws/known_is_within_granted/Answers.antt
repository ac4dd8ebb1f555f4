use Rattle.qs_runs.proofs.Clauses.{each_step, known_is_within_granted}
use Rattle.qs_runs.proofs.laws.known_is_within_granted.Goals as goal

pub returns : goal.returns
returns c = each_step known_is_within_granted
