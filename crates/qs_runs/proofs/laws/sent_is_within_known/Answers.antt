use Rattle.qs_runs.proofs.Clauses.{each_step, sent_is_within_known}
use Rattle.qs_runs.proofs.laws.sent_is_within_known.Goals as goal

pub returns : goal.returns
returns c = each_step sent_is_within_known
