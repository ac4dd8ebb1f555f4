use Rattle.qs_progress.proofs.Within.{items_are_within}
use Rattle.qs_progress.proofs.laws.items_are_within.Goals as goal

pub returns : goal.returns
returns c = items_are_within
