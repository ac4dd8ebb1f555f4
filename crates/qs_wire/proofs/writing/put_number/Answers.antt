use Rattle.std.proofs.Common.{◌-◌, length, drop, length-drop, length-take, arith}
use Rattle.qs_wire.proofs.Numbers.{length-short}
use Rattle.qs_wire.proofs.writing.put_number.Goals as goal

pub spell-requires-clause-room : goal.spell-requires-clause-room
spell-requires-clause-room c = omega (arith, length-short c.args.value, length-take (length c.args.out.now - c.args.at) (drop c.args.at c.args.out.now), length-drop c.args.at c.args.out.now)

pub returns-clause-next : goal.returns-clause-next
returns-clause-next c = omega (arith, length-short c.args.value, c.spell.ensures.len)
