use Rattle.qs_rest.proofs.Resting.{told_taken}
use Rattle.qs_rest.proofs.laws.told_is_taken.Goals as goal

pub returns : goal.returns
returns c = told_taken
