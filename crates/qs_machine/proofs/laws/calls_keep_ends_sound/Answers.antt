use Rattle.qs_machine.proofs.CallsCounts.{sound_end}
use Rattle.qs_machine.proofs.laws.calls_keep_ends_sound.Goals as goal

pub returns : goal.returns
returns c = λ old call answer new h step. sound_end old call answer new h step
