use Rattle.qs_progress.proofs.Bound.{is_below}
use Rattle.qs_progress.proofs.laws.done_is_bounded.Goals as goal

pub returns : goal.returns
returns c = is_below
