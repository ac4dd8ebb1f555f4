use Rattle.qs_runs.proofs.Clauses.{each_step, is_open_at_initiator}
use Rattle.qs_runs.proofs.laws.open_at_initiator.Goals as goal

pub returns : goal.returns
returns c = each_step is_open_at_initiator
