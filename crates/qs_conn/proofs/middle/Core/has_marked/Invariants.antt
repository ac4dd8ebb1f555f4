use Rattle.std.proofs.Common.{◌-◌, ◌≤◌, ◌^◌, false}
use Rattle.qs_machine.specs.Ends.{End}
use Rattle.qs_conn.specs.Middle.{end_of}
use Rattle.qs_conn.specs.Filling.{kind_first, slot_at, slot_place}
use Rattle.qs_conn.specs.Sending.{TellsDue}
use Rattle.qs_conn.proofs.middle.Core.has_marked.Given as goal

abbrev pub invariant-loop-stream : goal.invariant-loop-stream
invariant-loop-stream l =
    record {
      small : l.from ≤ 2 ^ 62;
      none : (e : End) → TellsDue false (end_of l.fn.self e) (kind_first l.fn.kind) → TellsDue false (end_of l.fn.self e) (slot_place (slot_at l.fn.kind l.from));
    }

abbrev pub decreases-loop-stream : goal.decreases-loop-stream
decreases-loop-stream l = 2 ^ 62 - l.from
