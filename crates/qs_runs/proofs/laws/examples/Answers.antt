use Rattle.qs_runs.proofs.Examples.{examples_hold}
use Rattle.qs_runs.proofs.laws.examples.Goals as goal

pub returns : goal.returns
returns c = examples_hold
