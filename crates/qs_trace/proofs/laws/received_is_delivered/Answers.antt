use Rattle.qs_trace.proofs.Told.{received_is_delivered}
use Rattle.qs_trace.proofs.laws.received_is_delivered.Goals as goal

pub returns : goal.returns
returns c = received_is_delivered
