use Rattle.std.proofs.Common.{take}
use Rattle.qs_conn.specs.Rooms.{IsSumOf}
use Rattle.qs_conn.proofs.held.sum_held.Given as goal

abbrev pub invariant-loop-part : goal.invariant-loop-part
invariant-loop-part g l = IsSumOf g.T.Holds.IsHeld (take l.part-index l.fn.parts) l.held
