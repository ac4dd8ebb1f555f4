use Rattle.std.proofs.Common.{◌≤◌, ◌-◌}
use Rattle.std.specs.List.{FoldsTo}
use Rattle.qs_conn.specs.Rows.{numbers_down}
use Rattle.qs_conn.proofs.middle.acking.tell_down.Given as goal

-- What is told of the numbers that are left is told of all.
abbrev pub invariant-loop-last : goal.invariant-loop-last
invariant-loop-last g l = record {
  least : l.first ≤ l.last;
  onward : (t : _) → FoldsTo g.T.Told.tells l.told (numbers_down l.first (l.last - l.first)) t → FoldsTo g.T.Told.tells l.initial.told (numbers_down l.first (l.number - l.first)) t;
}

abbrev pub decreases-loop-last : goal.decreases-loop-last
decreases-loop-last g l = l.last
