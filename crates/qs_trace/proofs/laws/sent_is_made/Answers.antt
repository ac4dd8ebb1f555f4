use Rattle.qs_trace.proofs.Told.{sent_is_made}
use Rattle.qs_trace.proofs.laws.sent_is_made.Goals as goal

pub returns : goal.returns
returns c = sent_is_made
