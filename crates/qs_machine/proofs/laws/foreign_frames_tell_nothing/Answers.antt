use Rattle.qs_machine.proofs.Foreign.{foreign_frame, foreign_frames}
use Rattle.qs_machine.proofs.laws.foreign_frames_tell_nothing.Goals as goal

pub returns-clause-alone : goal.returns-clause-alone
returns-clause-alone c = foreign_frame

pub returns-clause-several : goal.returns-clause-several
returns-clause-several c = foreign_frames
