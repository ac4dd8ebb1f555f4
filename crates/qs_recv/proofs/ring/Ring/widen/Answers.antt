use Rattle.std.proofs.Common.{ap, arith, length, vec_len, subst, sym}
use Rattle.qs_recv.specs.Ring.{RingBytes, IsThere}
use Rattle.qs_recv.proofs.RingTurned.{length_places, stayed, stayed_written}
use Rattle.qs_recv.proofs.ring.Ring.widen.Goals as goal

pub returns-clause-moved : goal.returns-clause-moved
returns-clause-moved c =
    let s = c.self-2.inside in
    let i = c.self-2.invariant in
    let within = i.within in
    let size = rw (ap (λ (x : RingBytes). x.0) c.self-2.view_is) at (length_places s.turn s.size s.bytes.items i.turned (omega (arith, within))) in
    let had = c.requires.had in
    let more = c.requires.more in
    rw (← c.self-2.view_is, c.in_ok-self-inside-3.ensures.answer) (stayed c.args.from s.turn s.size c.place_of-place.result c.args.count c.args.size c.turn_to-self-inside.result s.bytes.items c.reserve.new.bytes.items
    (omega (arith, size, had, c.if-count-eq0.false)) i.turned (omega (arith, within)) c.place_of-place.ensures (omega (arith, c.if-count-self.false, c.if-count-eq0.false))
    (omega (arith, size, more)) c.turn_to-self-inside.ensures.turned c.turn_to-self-inside.ensures.there c.reserve.ensures.same)

pub returns-then-count-self-clause-there : goal.returns-then-count-self-clause-there
returns-then-count-self-clause-there c = λ q low high was. subst (λ r. IsThere r q) (sym c.drop-then-count-self.view_is) (c.in_ok-self-inside-2.ensures.there q low high)

pub returns-clause-there : goal.returns-clause-there
returns-clause-there c =
    let s = c.self-2.inside in
    let i = c.self-2.invariant in
    let within = i.within in
    let size = rw (ap (λ (x : RingBytes). x.0) c.self-2.view_is) at (length_places s.turn s.size s.bytes.items i.turned (omega (arith, within))) in
    let had = c.requires.had in
    let more = c.requires.more in
    let len = ap length c.reserve.ensures.same in
    rw (← c.self-2.view_is, c.in_ok-self-inside-3.ensures.answer)
    (stayed_written c.args.from s.turn s.size c.place_of-place.result c.args.count c.args.size c.turn_to-self-inside.result (vec_len s.bytes) (vec_len c.reserve.new.bytes) s.bytes.items c.reserve.new.bytes.items
    (omega (arith, size, had, c.if-count-eq0.false)) i.turned (omega (arith, within)) c.place_of-place.ensures (omega (arith, c.if-count-self.false, c.if-count-eq0.false))
    (omega (arith, size, more)) c.turn_to-self-inside.ensures.turned c.turn_to-self-inside.ensures.there (omega (arith, len, within, size, more)) (omega (arith, len)))
