use Rattle.qs_rest.proofs.Streams.{each_credit_whole}
use Rattle.qs_rest.proofs.laws.credit_is_whole.Goals as goal

pub returns : goal.returns
returns c = each_credit_whole
