use Rattle.qs_runs.proofs.Clauses.{whole}
use Rattle.qs_runs.proofs.laws.received_is_whole.Goals as goal

pub returns : goal.returns
returns c = whole
