use Rattle.qs_machine.proofs.Ways.{fill_packet}
use Rattle.qs_machine.proofs.laws.a_fill_is_a_packet.Goals as goal

pub returns : goal.returns
returns c = fill_packet
