use Rattle.qs_rest.proofs.ItemParts.{all_ask}
use Rattle.qs_rest.proofs.laws.all_but_acks_ask.Goals as goal

pub returns : goal.returns
returns c = all_ask
