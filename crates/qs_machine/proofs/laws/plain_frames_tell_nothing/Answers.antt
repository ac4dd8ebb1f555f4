use Rattle.qs_machine.proofs.Plains.{plain_frames}
use Rattle.qs_machine.proofs.laws.plain_frames_tell_nothing.Goals as goal

pub returns : goal.returns
returns c = plain_frames
