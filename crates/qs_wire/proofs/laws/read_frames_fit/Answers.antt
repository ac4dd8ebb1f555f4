use Rattle.qs_wire.proofs.FaultAgain.{bytes_fit}
use Rattle.qs_wire.proofs.FitLaws.{frames_fit}
use Rattle.qs_wire.proofs.laws.read_frames_fit.Goals as goal

pub returns : goal.returns
returns c = λ payload bytes. frames_fit payload (bytes_fit payload bytes)
