use Rattle.qs_rest.proofs.Delivered.{each_credit_ahead}
use Rattle.qs_rest.proofs.laws.credit_is_ahead.Goals as goal

pub returns : goal.returns
returns c = each_credit_ahead
