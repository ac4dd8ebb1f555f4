use Rattle.qs_runs.proofs.Clauses.{each_step, received_is_below_sent}
use Rattle.qs_runs.proofs.laws.received_is_below_sent.Goals as goal

pub returns : goal.returns
returns c = each_step received_is_below_sent
