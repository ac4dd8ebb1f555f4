use Rattle.std.proofs.Common.{arith, refl}
use Rattle.qs_streams.proofs.Searches.{clear_low, found, next_none, next_past, next_top, no_top, top_some, top_there}
use Rattle.qs_streams.proofs.board.Board.next.Goals as goal

pub returns-then-count-eq0-clause-next : goal.returns-then-count-eq0-clause-next
returns-then-count-eq0-clause-next c = rw (← c.self.view_is, ← c.row_of-row.ensures.value) (next_none _ _ _ _ _ c.self.invariant _ _ c.row_of-row.ensures.small c.if-count-eq0.true)

pub returns-then-place-len-clause-next : goal.returns-then-place-len-clause-next
returns-then-place-len-clause-next c = rw (← c.self.view_is, ← c.row_of-row.ensures.value) (next_past _ _ _ _ _ c.self.invariant _ _ c.row_of-row.ensures.small _ c.max-from.ensures (omega (arith, c.if-place-len.true, c.len.ensures.len)))

pub overflow_add-result : goal.overflow_add-result
overflow_add-result c = omega (arith, (c.in-Some.ensures.found c.in-Some.bit refl).1, c.if-place-len.false, c.len.ensures.few)

pub returns-in-Some-clause-next : goal.returns-in-Some-clause-next
returns-in-Some-clause-next c = rw (← c.self.view_is, ← c.row_of-row.ensures.value) (found _ _ _ _ _ (clear_low _ _ _ _ _ c.self.invariant _ _ c.row_of-row.ensures.small _ c.max-from.ensures) _ (rw c.word.ensures at c.in-Some.ensures))

pub returns-in_err-place-clause-next : goal.returns-in_err-place-clause-next
returns-in_err-place-clause-next c = rw (← c.self.view_is, ← c.row_of-row.ensures.value, c.from_residual.ensures) (no_top _ _ _ _ _ c.self.invariant _ _ c.row_of-row.ensures.small _ c.max-from.ensures (rw c.word.ensures at c.in_default.ensures) c.in_err-place.ensures)

pub word-requires-2-clause-there : goal.word-requires-2-clause-there
word-requires-2-clause-there c = top_there _ _ _ _ _ c.self.invariant _ _ c.row_of-row.ensures.small _ c.max-from.ensures (rw c.word.ensures at c.in_default.ensures) _ c.in_ok-place.ensures

pub returns-in_err-bit-clause-next : goal.returns-in_err-bit-clause-next
returns-in_err-bit-clause-next c = absurd (top_some _ _ _ _ _ c.self.invariant _ _ c.row_of-row.ensures.small _ c.max-from.ensures (rw c.word.ensures at c.in_default.ensures) _ c.in_ok-place.ensures (rw c.word-2.ensures at c.word-2.type_inv) (rw c.word-2.ensures at c.in_err-bit.ensures))

pub overflow_mul-result-2 : goal.overflow_mul-result-2
overflow_mul-result-2 c = omega (arith, top_there _ _ _ _ _ c.self.invariant _ _ c.row_of-row.ensures.small _ c.max-from.ensures (rw c.word.ensures at c.in_default.ensures) _ c.in_ok-place.ensures, c.self.invariant.few)

pub overflow_add-result-2 : goal.overflow_add-result-2
overflow_add-result-2 c = omega (arith, top_there _ _ _ _ _ c.self.invariant _ _ c.row_of-row.ensures.small _ c.max-from.ensures (rw c.word.ensures at c.in_default.ensures) _ c.in_ok-place.ensures, c.self.invariant.few, (c.in_ok-bit.ensures.found c.in_ok-bit.bit refl).1)

pub returns-clause-next : goal.returns-clause-next
returns-clause-next c = rw (← c.self.view_is, ← c.row_of-row.ensures.value) (next_top _ _ _ _ _ c.self.invariant _ _ c.row_of-row.ensures.small _ c.max-from.ensures (rw c.word.ensures at c.in_default.ensures) _ c.in_ok-place.ensures _ (rw c.word-2.ensures at c.in_ok-bit.ensures))

pub returns-in-Some-clause-small : goal.returns-in-Some-clause-small
returns-in-Some-clause-small c = omega (arith, (c.in-Some.ensures.found c.in-Some.bit refl).1, c.if-place-len.false, c.len.ensures.len, c.self.invariant.few)

pub returns-clause-small : goal.returns-clause-small
returns-clause-small c = omega (arith, top_there _ _ _ _ _ c.self.invariant _ _ c.row_of-row.ensures.small _ c.max-from.ensures (rw c.word.ensures at c.in_default.ensures) _ c.in_ok-place.ensures, c.self.invariant.few, (c.in_ok-bit.ensures.found c.in_ok-bit.bit refl).1)
