use Rattle.std.proofs.Common.{◌≤◌, ◌<◌}
use Rattle.qs_conn.specs.Rows.{IsRowAt}
use Rattle.qs_conn.proofs.outbox.rows.row_of.Given as goal

abbrev pub invariant-loop-first : goal.invariant-loop-first
invariant-loop-first l = record {
  row : IsRowAt l.records.pieces l.stream l.number l.first l.chunk;
  within : l.first < l.number → l.low ≤ l.first;
}

abbrev pub decreases-loop-first : goal.decreases-loop-first
decreases-loop-first l = l.first
