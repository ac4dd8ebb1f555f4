use Rattle.std.proofs.Common.{refl, arith}
use Rattle.qs_streams.proofs.Searches.{clear_here, passed, found, none_past}
use Rattle.qs_streams.proofs.rows.Rows.next.Goals as goal

pub loop-place-init : goal.loop-place-init
loop-place-init c = clear_here _ _ _

pub lowest_bit-requires : goal.lowest_bit-requires
lowest_bit-requires c = c.loop-place.invariant.small

pub overflow_add-result : goal.overflow_add-result
overflow_add-result c = omega (arith, (c.in-Some.ensures.found c.in-Some.found refl).1, c.loop-place-test.true, c.len-place-end.ensures, c.self.invariant.few)

pub returns-in-Some : goal.returns-in-Some
returns-in-Some c = found _ _ _ _ _ c.loop-place.invariant _ (rw c.word.ensures at c.in-Some.ensures)

pub loop-place-preserved : goal.loop-place-preserved
loop-place-preserved c = passed _ _ _ _ _ c.loop-place.invariant (rw c.word.ensures at c.in_default.ensures)

pub returns : goal.returns
returns c = none_past _ _ _ _ _ c.loop-place.invariant (rw (← c.self.view_is) (omega (arith, c.loop-place-test.false, c.len-place-end.ensures)))
