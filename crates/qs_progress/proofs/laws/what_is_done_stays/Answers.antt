use Rattle.qs_progress.proofs.Score.{what_is_done_stays}
use Rattle.qs_progress.proofs.laws.what_is_done_stays.Goals as goal

pub returns : goal.returns
returns c = what_is_done_stays
