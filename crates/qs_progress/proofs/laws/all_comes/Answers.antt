use Rattle.qs_progress.proofs.Comes.{all_comes}
use Rattle.qs_progress.proofs.laws.all_comes.Goals as goal

pub returns : goal.returns
returns c = all_comes
