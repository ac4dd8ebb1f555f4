use Rattle.std.proofs.Common.{arith}
use Rattle.qs_ranges.proofs.OneWord.{no_bit_from, lowest_from}
use Rattle.qs_ranges.proofs.bits.lowest_bit.Goals as goal

pub returns-then-rest-eq0 : goal.returns-then-rest-eq0
returns-then-rest-eq0 c = no_bit_from c.args.word c.args.from c.if-rest-eq0.true

pub returns : goal.returns
returns c = lowest_from c.args.word c.args.from (omega arith) (omega (arith, c.if-rest-eq0.false))
