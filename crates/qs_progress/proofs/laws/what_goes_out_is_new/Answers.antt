use Rattle.qs_progress.proofs.Going.{what_goes_out_is_new}
use Rattle.qs_progress.proofs.laws.what_goes_out_is_new.Goals as goal

pub returns : goal.returns
returns c = what_goes_out_is_new
