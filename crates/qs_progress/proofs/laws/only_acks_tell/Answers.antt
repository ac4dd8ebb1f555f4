use Rattle.qs_progress.proofs.Acknowledged.{only_acks_tell}
use Rattle.qs_progress.proofs.laws.only_acks_tell.Goals as goal

pub returns : goal.returns
returns c = only_acks_tell
