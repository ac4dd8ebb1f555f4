use Rattle.qs_rest.proofs.ItemParts.{item_part}
use Rattle.qs_rest.proofs.laws.items_are_in_one_part.Goals as goal

pub returns : goal.returns
returns c = item_part
