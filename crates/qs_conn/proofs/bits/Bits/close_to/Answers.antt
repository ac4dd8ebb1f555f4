use Rattle.std.proofs.Common.{arith}
use Rattle.qs_conn.proofs.Marked.{flags_closed, flags_fewer, none_closed}
use Rattle.qs_conn.proofs.bits.Bits.close_to.Goals as goal

pub invariant_of-self : goal.invariant_of-self
invariant_of-self c =
    flags_fewer c.self.inside.words.items c.truncate.new.self.items c.self.inside.count c.args.count c.div_ceil.result c.self.invariant (omega (arith, c.if-count-self.true)) (rw (← c.self.view_is) at c.requires) (omega arith) (omega arith) c.truncate.ensures.items

pub returns-then-count-self : goal.returns-then-count-self
returns-then-count-self c =
    rw (← c.self.view_is)
    (flags_closed c.self.inside.words.items c.truncate.new.self.items c.self.inside.count c.args.count c.div_ceil.result c.self.invariant (omega (arith, c.if-count-self.true)) (rw (← c.self.view_is) at c.requires) (omega arith) (omega arith) c.truncate.ensures.items)

pub returns-else-count-self : goal.returns-else-count-self
returns-else-count-self c = none_closed c.self.inside.words.items c.self.inside.count c.args.count c.args.self.now c.self.view_is (omega (arith, c.if-count-self.false))
