use Rattle.qs_world.proofs.ExclusionsComes.{comes_exclusions}
use Rattle.qs_world.proofs.laws.comes_exclusions.Goals as goal

pub returns : goal.returns
returns c = comes_exclusions
