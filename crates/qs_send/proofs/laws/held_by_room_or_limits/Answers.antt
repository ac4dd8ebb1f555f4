use Rattle.qs_send.proofs.Steps.{held_by_room_or_limits}
use Rattle.qs_send.proofs.laws.held_by_room_or_limits.Goals as goal

pub returns : goal.returns
returns c = held_by_room_or_limits
