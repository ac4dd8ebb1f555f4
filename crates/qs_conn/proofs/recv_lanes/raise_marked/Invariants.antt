use Rattle.qs_conn.specs.Marks.{count_marked}
use Rattle.qs_conn.specs.Due.{StayMarkedOf}
use Rattle.qs_conn.proofs.LaneEdits.{AreRaisedSoFar}
use Rattle.std.proofs.Common.{◌≡◌, length}
use Rattle.qs_conn.proofs.recv_lanes.raise_marked.Given as goal

abbrev pub invariant-loop-index : goal.invariant-loop-index
invariant-loop-index l =
    record {
      far : AreRaisedSoFar l.fn.halves.items l.halves.items l.rising;
      room : length l.rising ≡ length l.fn.rising;
      marked : StayMarkedOf l.stream_type l.fn.halves.items l.halves.items l.fn.limits l.limits;
    }

abbrev pub decreases-loop-index : goal.decreases-loop-index
decreases-loop-index l = count_marked l.rising
