use Rattle.std.proofs.Common.{◌-◌, ◌≤◌, false}
use Rattle.qs_machine.specs.Ends.{End}
use Rattle.qs_conn.specs.Middle.{end_of}
use Rattle.qs_conn.specs.Sending.{TellsDue}
use Rattle.qs_conn.proofs.middle.Core.has_item.Given as goal

abbrev pub invariant-loop-place : goal.invariant-loop-place
invariant-loop-place l =
    record {
      small : l.from ≤ 10;
      none : (e : End) → TellsDue false (end_of l.fn.self e) (l.from, 0);
    }

abbrev pub decreases-loop-place : goal.decreases-loop-place
decreases-loop-place l = 10 - l.from
