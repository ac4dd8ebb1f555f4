use Rattle.qs_world.proofs.Examples.{examples_hold}
use Rattle.qs_world.proofs.laws.examples.Goals as goal

pub returns : goal.returns
returns c = examples_hold
