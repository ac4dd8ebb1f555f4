use Rattle.qs_text.proofs.Examples.{examples_hold}
use Rattle.qs_text.proofs.laws.examples.Goals as goal

pub returns : goal.returns
returns c = examples_hold
