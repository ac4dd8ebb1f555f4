use Rattle.qs_progress.proofs.Ending.{roomy_packets_carry}
use Rattle.qs_progress.proofs.laws.roomy_packets_carry.Goals as goal

pub returns : goal.returns
returns c = roomy_packets_carry
