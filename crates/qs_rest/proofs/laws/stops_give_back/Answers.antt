use Rattle.qs_rest.proofs.Telling.{give_back}
use Rattle.qs_rest.proofs.laws.stops_give_back.Goals as goal

pub returns : goal.returns
returns c = give_back
