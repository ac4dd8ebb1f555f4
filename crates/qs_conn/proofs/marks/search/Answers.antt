use Rattle.std.proofs.Common.{refl, arith, rules}
use Rattle.qs_conn.proofs.Marked.{clear_here, summed, found, none_past}
use Rattle.qs_conn.proofs.marks.search.Goals as goal

pub loop-place-init : goal.loop-place-init
loop-place-init g c = clear_here _ c.args.from

pub lowest_bit-requires : goal.lowest_bit-requires
lowest_bit-requires g c = c.loop-place.invariant.few

pub overflow_add-result : goal.overflow_add-result
overflow_add-result g c = omega (arith, (c.in-Some.ensures.found c.in-Some.flag refl).1, c.requires.few, c.loop-place-test.true)

pub returns-in-Some : goal.returns-in-Some
returns-in-Some g c = found _ _ _ _ c.loop-place.invariant _ c.word.ensures _ c.in-Some.ensures

pub loop-place-preserved : goal.loop-place-preserved
loop-place-preserved g c = search (rules, summed)

pub returns : goal.returns
returns g c = search (rules, none_past)
