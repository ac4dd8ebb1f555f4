use Rattle.qs_progress.proofs.Comes.{rest_comes}
use Rattle.qs_progress.proofs.laws.rest_comes.Goals as goal

pub returns : goal.returns
returns c = rest_comes
