use Rattle.std.proofs.Common.{arith}
use Rattle.qs_wire.proofs.Numbers.{length-short, short_most}
use Rattle.qs_wire.proofs.acks.two_fit.Goals as goal

pub returns-then-room-ge16-clause-fit : goal.returns-then-room-ge16-clause-fit
returns-then-room-ge16-clause-fit c = λ is. omega (arith, c.if-room-ge16.true, length-short c.args.a, length-short c.args.b, short_most c.args.a c.requires.small.0, short_most c.args.b c.requires.small.1)
