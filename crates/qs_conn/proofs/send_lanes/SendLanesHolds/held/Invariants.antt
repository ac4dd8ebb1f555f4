use Rattle.std.proofs.Common.{take}
use Rattle.qs_conn.specs.Rooms.{IsBuffer, IsSumOf}
use Rattle.qs_conn.proofs.send_lanes.SendLanesHolds.held.Given as goal

abbrev pub invariant-loop-index : goal.invariant-loop-index
invariant-loop-index l = IsSumOf (λ s. IsBuffer s.lane) (take l.index l.fn.self) l.held
