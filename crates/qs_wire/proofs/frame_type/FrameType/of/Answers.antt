use Rattle.std.proofs.Common.{arith, sym}
use Rattle.qs_wire.proofs.Types.{none_above}
use Rattle.qs_wire.proofs.frame_type.FrameType.of.Goals as goal

pub returns-in_default : goal.returns-in_default
returns-in_default c = sym (none_above c.args.number (omega (arith, c.in_default)))
