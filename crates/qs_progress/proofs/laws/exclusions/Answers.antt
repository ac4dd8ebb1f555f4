use Rattle.qs_progress.proofs.Exclusions.{exclusions}
use Rattle.qs_progress.proofs.laws.exclusions.Goals as goal

pub returns : goal.returns
returns c = exclusions
