use Rattle.qs_rest.proofs.Resting.{items_acked}
use Rattle.qs_rest.proofs.laws.items_are_acked.Goals as goal

pub returns : goal.returns
returns c = items_acked
