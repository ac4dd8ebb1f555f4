use Rattle.qs_ranges.proofs.OneWord.{bit_set, bit_cleared}
use Rattle.qs_ranges.proofs.bits.with_bit.Goals as goal

pub returns-then-is_set : goal.returns-then-is_set
returns-then-is_set c = rw c.if-is_set.true (bit_set c.args.word c.args.bit c.requires)

pub returns-else-is_set : goal.returns-else-is_set
returns-else-is_set c = rw c.if-is_set.false (bit_cleared c.args.word c.args.bit c.requires)
