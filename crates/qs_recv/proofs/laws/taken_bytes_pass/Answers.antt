use Rattle.qs_recv.proofs.LawfulLaws.{taken_passes}
use Rattle.qs_recv.proofs.laws.taken_bytes_pass.Goals as goal

pub returns : goal.returns
returns c = λ lane offset bytes fin ok. taken_passes lane offset bytes fin ok
