use Rattle.qs_runs.proofs.Clauses.{each_step, reset_code_is_the_senders}
use Rattle.qs_runs.proofs.laws.reset_code_is_the_senders.Goals as goal

pub returns : goal.returns
returns c = each_step reset_code_is_the_senders
