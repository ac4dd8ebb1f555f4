use Rattle.qs_send.proofs.Steps.{lawful_new, calls_keep_lawful}
use Rattle.qs_send.proofs.laws.calls_keep_lawful.Goals as goal

pub returns : goal.returns
returns c = record { new = lawful_new; kept = calls_keep_lawful }
