use Rattle.qs_runs.proofs.Exclusions.{exclusions_hold}
use Rattle.qs_runs.proofs.laws.exclusions.Goals as goal

pub returns : goal.returns
returns c = exclusions_hold
