use Rattle.std.proofs.Common.{◌-◌}
use Rattle.qs_conn.proofs.Marked.{IsClearTo}
use Rattle.qs_conn.proofs.marks.search.Given as goal

abbrev pub invariant-loop-place : goal.invariant-loop-place
invariant-loop-place g l = IsClearTo (g.R.Row.flags l.row) l.from l.place l.bit

abbrev pub decreases-loop-place : goal.decreases-loop-place
decreases-loop-place g l = l.words - l.place
