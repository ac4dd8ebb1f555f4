use Rattle.qs_machine.proofs.Examples.{examples_hold}
use Rattle.qs_machine.proofs.laws.examples.Goals as goal

pub returns : goal.returns
returns c = examples_hold
