use Rattle.qs_rest.proofs.Delivered.{each_delivered}
use Rattle.qs_rest.proofs.laws.all_is_delivered.Goals as goal

pub returns : goal.returns
returns c = each_delivered
