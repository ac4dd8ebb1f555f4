use Rattle.qs_streams.proofs.Searches.{IsClearTo}
use Rattle.qs_streams.proofs.rows.Rows.next.Given as goal

abbrev pub invariant-loop-place : goal.invariant-loop-place
invariant-loop-place l = IsClearTo l.self l.row l.from l.place l.bit
