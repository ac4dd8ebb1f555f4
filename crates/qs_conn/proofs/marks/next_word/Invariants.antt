use Rattle.qs_conn.proofs.Marked.{IsClearTo}
use Rattle.qs_conn.proofs.marks.next_word.Given as goal

abbrev pub invariant-loop-place : goal.invariant-loop-place
invariant-loop-place g l = IsClearTo (g.S.Row.flags l.summary) l.from l.place l.bit
