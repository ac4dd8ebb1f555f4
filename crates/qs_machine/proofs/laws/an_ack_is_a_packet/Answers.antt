use Rattle.qs_machine.proofs.Ways.{ack_packet}
use Rattle.qs_machine.proofs.laws.an_ack_is_a_packet.Goals as goal

pub returns : goal.returns
returns c = ack_packet
