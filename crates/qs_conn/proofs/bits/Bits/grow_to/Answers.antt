use Rattle.std.proofs.Common.{arith}
use Rattle.qs_conn.proofs.Marked.{flags_len, flags_opened, flags_grown}
use Rattle.qs_conn.proofs.bits.Bits.grow_to.Goals as goal

pub invariant_of-self : goal.invariant_of-self
invariant_of-self c =
    let more = rw (← c.self.view_is) at c.requires in
    flags_grown c.self.inside.words.items c.resize.new.self.items c.self.inside.count c.args.count c.max-words.result c.self.inside.words.len c.self.invariant (omega (arith, more, flags_len c.self.inside.words.items c.self.inside.count)) (omega arith) (omega arith) c.in-Ok.ensures.items c.ranges.count.fits (omega arith) (omega (arith, more, flags_len c.self.inside.words.items c.self.inside.count, c.self.invariant.tight))

pub returns-in-Ok-clause-ok : goal.returns-in-Ok-clause-ok
returns-in-Ok-clause-ok c =
    let more = rw (← c.self.view_is) at c.requires in
    rw (← c.self.view_is)
    (flags_opened c.self.inside.words.items c.resize.new.self.items c.self.inside.count c.args.count c.max-words.result c.self.inside.words.len c.self.invariant (omega (arith, more, flags_len c.self.inside.words.items c.self.inside.count)) (omega arith) (omega arith) c.in-Ok.ensures.items)
