use Rattle.std.proofs.Common.{refl, arith}
use Rattle.qs_send.proofs.Outstanding.{found_end, none_end, nothing_passed}
use Rattle.qs_send.proofs.gone.end_in_word.Goals as goal

pub overflow_sub-result : goal.overflow_sub-result
overflow_sub-result c = let found = (c.in-Some.ensures.found c.in-Some.bit refl).1 in omega (arith, found)

pub overflow_add-result : goal.overflow_add-result
overflow_add-result c =
    let found = c.in-Some.ensures.found c.in-Some.bit refl in
    let from_on = found.0 in
    let small = found.1 in
    let of = c.bit_of.ensures in
    omega (arith, from_on, small, of, c.if-end-eq0.false)

pub returns-in-Some-clause-below : goal.returns-in-Some-clause-below
returns-in-Some-clause-below c =
    (found_end c.args.words.now.items c.args.end c.args.end c.index.result.now c.bit_of.result (nothing_passed c.args.words.now.items c.args.end) (omega arith) (omega arith) c.index.ensures (omega arith) c.bit_of.ensures c.in-Some.bit c.in-Some.ensures).0

pub returns-in-Some-clause-gone : goal.returns-in-Some-clause-gone
returns-in-Some-clause-gone c =
    (found_end c.args.words.now.items c.args.end c.args.end c.index.result.now c.bit_of.result (nothing_passed c.args.words.now.items c.args.end) (omega arith) (omega arith) c.index.ensures (omega arith) c.bit_of.ensures c.in-Some.bit c.in-Some.ensures).1

pub returns-in-None-clause-gone : goal.returns-in-None-clause-gone
returns-in-None-clause-gone c =
    (none_end c.args.words.now.items c.args.end c.args.end c.index.result.now c.bit_of.result (nothing_passed c.args.words.now.items c.args.end) (omega arith) (omega arith) c.index.ensures (omega arith) c.bit_of.ensures c.in-None.ensures).1
