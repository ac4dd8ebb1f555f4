use Rattle.qs_progress.proofs.RestInRounds.{rest_comes_in_rounds}
use Rattle.qs_progress.proofs.laws.rest_comes_in_rounds.Goals as goal

pub returns : goal.returns
returns c = rest_comes_in_rounds
