use Rattle.qs_rest.proofs.Repeating.{frames_repeat}
use Rattle.qs_rest.proofs.laws.frames_repeat.Goals as goal

pub returns : goal.returns
returns c = frames_repeat
