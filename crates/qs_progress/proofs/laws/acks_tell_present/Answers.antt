use Rattle.qs_progress.proofs.Acknowledged.{acks_tell_present}
use Rattle.qs_progress.proofs.laws.acks_tell_present.Goals as goal

pub returns : goal.returns
returns c = acks_tell_present
