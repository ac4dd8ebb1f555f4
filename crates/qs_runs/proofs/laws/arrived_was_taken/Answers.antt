use Rattle.qs_runs.proofs.Clauses.{law_arrived_was_taken}
use Rattle.qs_runs.proofs.laws.arrived_was_taken.Goals as goal

pub returns : goal.returns
returns c = law_arrived_was_taken
