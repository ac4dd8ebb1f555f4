use Rattle.std.proofs.Common.{◌≡◌, min, ◌+◌, ◌*◌, ℕ}
use Rattle.qs_machine.specs.Tables.{widened}
use Rattle.qs_send.specs.Lane.{new_sending}
use Rattle.qs_conn.proofs.send_lanes.SendLanes.open_to.Given as goal

abbrev pub invariant-loop-index : goal.invariant-loop-index
invariant-loop-index l = l.self ≡ widened l.fn.self (min l._index l.count) (λ (i : ℕ). new_sending (i * 4 + l.stream_type) l.limit l.buffer)
