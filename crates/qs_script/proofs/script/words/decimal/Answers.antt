use Rattle.std.proofs.Common.{arith}
use Rattle.qs_script.proofs.ScriptDigits.{digits_short, digit_more}
use Rattle.qs_script.proofs.script.words.decimal.Goals as goal

pub overflow_mul-number : goal.overflow_mul-number
overflow_mul-number c =
    omega (
      arith,
      digits_short c.args.digits.now c.requires.digits c.requires.short,
      digit_more c.loop-digit.number c.loop-digit.digit-index c.args.digits.now _ c.loop-digit-test.true c.loop-digit.invariant.whole c.loop-digit.invariant.digits,
    )

pub overflow_add-number : goal.overflow_add-number
overflow_add-number c =
    omega (
      arith,
      c.from.ensures,
      digits_short c.args.digits.now c.requires.digits c.requires.short,
      digit_more c.loop-digit.number c.loop-digit.digit-index c.args.digits.now _ c.loop-digit-test.true c.loop-digit.invariant.whole c.loop-digit.invariant.digits,
    )
