use Rattle.std.proofs.Common.{◌+◌, get_or, refl, arith}
use Rattle.qs_wire.specs.Varint.{short}
use Rattle.qs_wire.proofs.Numbers.{length-short}
use Rattle.qs_wire.proofs.Writes.{length_more, text_within}
use Rattle.qs_wire.proofs.writing.put_fitting.Goals as goal

pub returns-then-more-out-clause-full : goal.returns-then-more-out-clause-full
returns-then-more-out-clause-full c =
    let ns = c.args.numbers.now in
    let i = c.loop-number.number-index in
    (omega (arith, length_more short ns i 0 c.loop-number-test.true, text_within short ns (i + 1), length-short (get_or ns i 0), c.varint_len-more.ensures.exact, c.loop-number.invariant, c.if-more-out.true), refl)

pub loop-number-preserved : goal.loop-number-preserved
loop-number-preserved c =
    let ns = c.args.numbers.now in
    let i = c.loop-number.number-index in
    let more = length_more short ns i 0 c.loop-number-test.true in
    (omega (arith, more, length-short (get_or ns i 0), c.varint_len-more.ensures.exact, c.loop-number.invariant), omega (arith, c.loop-number.invariant, c.if-more-out.false))
