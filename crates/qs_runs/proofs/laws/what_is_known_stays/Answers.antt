use Rattle.qs_runs.proofs.Stays.{what_is_known_stays}
use Rattle.qs_runs.proofs.laws.what_is_known_stays.Goals as goal

pub returns : goal.returns
returns c = what_is_known_stays
