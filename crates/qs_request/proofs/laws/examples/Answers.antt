use Rattle.qs_request.proofs.Examples.{examples_hold}
use Rattle.qs_request.proofs.laws.examples.Goals as goal

pub returns : goal.returns
returns c = examples_hold
