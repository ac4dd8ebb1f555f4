use Rattle.std.proofs.Common.{arith}
use Rattle.qs_conn.specs.Marks.{both}
use Rattle.qs_conn.proofs.Boths.{both_len, untold_len, summed_both, summed_untold}
use Rattle.qs_conn.proofs.marks.Marks.least_untold.Goals as goal

pub search-requires-clause-within : goal.search-requires-clause-within
search-requires-clause-within c = omega (arith, c.words.ensures.room, both_len c.self.inside.marks c.others.inside.marks, untold_len (both c.self.inside.marks c.others.inside.marks) c.bits.result.now)

pub search-requires-clause-summed : goal.search-requires-clause-summed
search-requires-clause-summed c = summed_untold _ _ _ _ (summed_both _ _ _ _ c.self.invariant.0 c.others.invariant.0) (rw c.bits.ensures c.full.ensures)

pub returns-clause-next : goal.returns-clause-next
returns-clause-next c = rw (← c.self.view_is, ← c.others.view_is) (rw c.bits.ensures at c.search.ensures)
