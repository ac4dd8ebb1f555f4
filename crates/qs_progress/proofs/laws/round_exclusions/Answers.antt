use Rattle.qs_progress.proofs.ExclusionsRounds.{round_exclusions}
use Rattle.qs_progress.proofs.laws.round_exclusions.Goals as goal

pub returns : goal.returns
returns c = round_exclusions
