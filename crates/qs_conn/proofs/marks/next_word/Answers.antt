use Rattle.std.proofs.Common.{refl, arith, rules}
use Rattle.qs_conn.proofs.Marked.{clear_here, passed, found}
use Rattle.qs_conn.proofs.marks.next_word.Goals as goal

pub loop-place-init : goal.loop-place-init
loop-place-init g c = clear_here _ c.args.from

pub returns-in-Some-clause-passed : goal.returns-in-Some-clause-passed
returns-in-Some-clause-passed g c word ge lt = (found _ _ _ _ c.loop-place.invariant _ c.word.ensures _ c.in-Some.ensures).unmarked word ge lt

pub loop-place-preserved : goal.loop-place-preserved
loop-place-preserved g c = passed _ _ _ _ c.loop-place.invariant _ c.word.ensures c.in_default.ensures

pub returns-clause-passed : goal.returns-clause-passed
returns-clause-passed g c word ge lt = search (rules)

pub overflow_add-result : goal.overflow_add-result
overflow_add-result g c = omega (arith, (c.in-Some.ensures.found c.in-Some.flag refl).1, c.requires, c.loop-place-test.true, c.div_ceil-place-end.ensures)

pub returns-in-Some-clause-from : goal.returns-in-Some-clause-from
returns-in-Some-clause-from g c = omega (arith, (c.in-Some.ensures.found c.in-Some.flag refl).0, c.loop-place.invariant.after)
