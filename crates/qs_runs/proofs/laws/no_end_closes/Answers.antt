use Rattle.qs_runs.proofs.Clauses.{stays_open}
use Rattle.qs_runs.proofs.laws.no_end_closes.Goals as goal

pub returns : goal.returns
returns c = stays_open
