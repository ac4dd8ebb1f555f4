use Rattle.qs_machine.proofs.Counts.{new_ends_sound, new_ends_wide}
use Rattle.qs_machine.proofs.laws.new_ends_are_sound.Goals as goal

pub returns-clause-sound : goal.returns-clause-sound
returns-clause-sound c = λ role s t p e made. new_ends_sound role s t p e made

pub returns-clause-wide : goal.returns-clause-wide
returns-clause-wide c = λ role s p e made. new_ends_wide role s p e made
