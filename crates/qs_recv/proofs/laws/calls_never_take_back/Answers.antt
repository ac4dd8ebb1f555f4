use Rattle.qs_recv.proofs.LawfulLaws.{grows_after_call}
use Rattle.qs_recv.proofs.laws.calls_never_take_back.Goals as goal

pub returns : goal.returns
returns c = λ lane call h ok. grows_after_call lane call h ok
