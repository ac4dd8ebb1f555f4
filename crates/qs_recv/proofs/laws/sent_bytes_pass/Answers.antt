use Rattle.qs_recv.proofs.LawfulLaws.{sent_passes}
use Rattle.qs_recv.proofs.laws.sent_bytes_pass.Goals as goal

pub returns : goal.returns
returns c = λ sent lane offset bytes stored carried. sent_passes sent lane offset bytes stored carried
