use Rattle.std.proofs.Common.{◌≡◌, min, ℕ}
use Rattle.qs_machine.specs.Tables.{widened}
use Rattle.qs_recv.specs.Lane.{new_lane}
use Rattle.qs_conn.proofs.recv_lanes.RecvLanes.open_to.Given as goal

abbrev pub invariant-loop-index : goal.invariant-loop-index
invariant-loop-index l = l.self ≡ widened l.fn.self (min l._index l.count) (λ (i : ℕ). new_lane l.window l.share)
