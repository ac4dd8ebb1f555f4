use Rattle.qs_machine.proofs.Again.{frames_repeat}
use Rattle.qs_machine.proofs.laws.effects_repeat.Goals as goal

pub returns : goal.returns
returns c = λ e frames again sound sent h among. frames_repeat e frames again sound sent h among
