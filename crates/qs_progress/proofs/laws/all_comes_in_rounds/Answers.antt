use Rattle.qs_progress.proofs.RestInRounds.{all_comes_in_rounds}
use Rattle.qs_progress.proofs.laws.all_comes_in_rounds.Goals as goal

pub returns : goal.returns
returns c = all_comes_in_rounds
