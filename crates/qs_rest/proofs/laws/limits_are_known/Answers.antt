use Rattle.qs_rest.proofs.Resting.{each_limit_known}
use Rattle.qs_rest.proofs.laws.limits_are_known.Goals as goal

pub returns : goal.returns
returns c = each_limit_known
