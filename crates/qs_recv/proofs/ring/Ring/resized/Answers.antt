use Rattle.std.proofs.Common.{◌∙◌, ◌≡◌, ◌-◌, ap, subst, arith, length, vec_len}
use Rattle.qs_recv.specs.Ring.{RingBytes, IsMoved, places_of}
use Rattle.qs_recv.proofs.RingTurned.{begun, length_around, length_places, same_places, begun_written}
use Rattle.qs_recv.proofs.ring.Ring.resized.Goals as goal

pub returns-clause-moved : goal.returns-clause-moved
returns-clause-moved c =
    let s = c.self.inside in
    let i = c.self.invariant in
    let within = i.within in
    let filled = c.fill.new.bytes.items in
    let kept = c.copy_to.new.made.items in
    let start = c.args.size - c.place_of.result in
    let size = rw (ap (λ (x : RingBytes). x.0) c.self.view_is) at (length_places s.turn s.size s.bytes.items i.turned (omega (arith, within))) in
    let same = same_places s.turn s.size s.bytes.items filled (omega (arith, within)) (omega (arith, c.fill.ensures.within)) c.fill.ensures.same in
    rw (← c.self.view_is, c.in_ok-room.ensures.answer) (subst (λ ring. IsMoved c.args.from c.args.count ring (places_of start c.args.size kept)) same
    (begun c.args.from s.turn s.size c.place_of-place.result c.args.count c.args.size start filled kept (omega (arith, size, c.requires.had, c.if-count-eq0.false)) i.turned (omega (arith, c.fill.ensures.within)) c.place_of-place.ensures
    (omega (arith, size, c.requires.had)) (omega (arith, c.fill.ensures.reaches)) c.requires.some c.requires.fits (ap (λ p. c.args.size - p) c.place_of.ensures) (rw c.deref.ensures.value at c.copy_to.ensures.items)))

pub returns-clause-there : goal.returns-clause-there
returns-clause-there c =
    let within = c.self.invariant.within in
    let filled = c.fill.new.bytes.items in
    let kept = c.copy_to.new.made.items in
    let size = rw (ap (λ (x : RingBytes). x.0) c.self.view_is) at (length_places c.self.inside.turn c.self.inside.size c.self.inside.bytes.items c.self.invariant.turned (omega (arith, within))) in
    let len : length kept ≡ c.args.count = ap length (rw c.deref.ensures.value at c.copy_to.ensures.items) ∙ length_around c.place_of-place.result c.args.count filled (omega (arith, size, c.fill.ensures.reaches, c.requires.had)) in
    rw c.in_ok-room.ensures.answer (begun_written c.args.from c.args.size (c.args.size - c.place_of.result) c.args.count (vec_len c.copy_to.new.made) kept c.requires.some (ap (λ p. c.args.size - p) c.place_of.ensures) c.requires.fits (omega (arith, len, c.requires.fits)) (omega (arith, len)))
