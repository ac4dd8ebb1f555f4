use Rattle.qs_rest.proofs.Exclusions.{exclusions}
use Rattle.qs_rest.proofs.laws.exclusions.Goals as goal

pub returns : goal.returns
returns c = exclusions
