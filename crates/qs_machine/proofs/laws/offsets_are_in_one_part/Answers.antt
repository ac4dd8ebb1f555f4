use Rattle.qs_machine.proofs.OffsetParts.{one_part}
use Rattle.qs_machine.proofs.laws.offsets_are_in_one_part.Goals as goal

pub returns : goal.returns
returns c = one_part
