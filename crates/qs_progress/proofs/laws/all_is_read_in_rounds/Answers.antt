use Rattle.qs_progress.proofs.ReadInRounds.{all_is_read_in_rounds}
use Rattle.qs_progress.proofs.laws.all_is_read_in_rounds.Goals as goal

pub returns : goal.returns
returns c = all_is_read_in_rounds
