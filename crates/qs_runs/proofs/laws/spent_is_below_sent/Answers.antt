use Rattle.qs_runs.proofs.Clauses.{credit}
use Rattle.qs_runs.proofs.laws.spent_is_below_sent.Goals as goal

pub returns : goal.returns
returns c = credit
