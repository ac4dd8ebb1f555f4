use Rattle.std.proofs.Common.{◌≡◌, ◌≤◌, ◌-◌}
use Rattle.qs_conn.specs.Rows.{without_row}
use Rattle.qs_conn.proofs.outbox.rows.drop_row.Given as goal

abbrev pub invariant-loop-last : goal.invariant-loop-last
invariant-loop-last l = record {
  least : l.first ≤ l.last;
  pieces : without_row l.first (l.last - l.first) l.records.pieces ≡ without_row l.first (l.number - l.first) l.fn.records.pieces;
  room : l.records.room ≡ l.fn.records.room;
}

abbrev pub decreases-loop-last : goal.decreases-loop-last
decreases-loop-last l = l.last
