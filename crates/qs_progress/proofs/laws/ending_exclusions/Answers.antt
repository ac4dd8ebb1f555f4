use Rattle.qs_progress.proofs.ExclusionsEnding.{ending_exclusions}
use Rattle.qs_progress.proofs.laws.ending_exclusions.Goals as goal

pub returns : goal.returns
returns c = ending_exclusions
