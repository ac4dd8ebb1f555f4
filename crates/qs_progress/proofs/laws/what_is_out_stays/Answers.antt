use Rattle.qs_progress.proofs.Outstanding.{what_is_out_stays}
use Rattle.qs_progress.proofs.laws.what_is_out_stays.Goals as goal

pub returns : goal.returns
returns c = what_is_out_stays
