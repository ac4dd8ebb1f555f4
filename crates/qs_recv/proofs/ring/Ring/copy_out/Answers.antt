use Rattle.std.proofs.Common.{◌∙◌, ◌%◌, ◌+◌, ◌<◌, ◌≤◌, ap, arith, length, min, slice_index}
use Rattle.qs_recv.specs.Ring.{RingBytes}
use Rattle.qs_recv.proofs.RingTurned.{length_parts, length_places, out_at_once, out_at_twice, part_at, same_places}
use Rattle.qs_recv.proofs.ring.Ring.copy_out.Goals as goal

pub returns-then-place-count-clause-out : goal.returns-then-place-count-clause-out
returns-then-place-count-clause-out c =
    let s = c.self.inside in
    let i = c.self.invariant in
    let within = i.within in
    let size = rw (ap (λ (x : RingBytes). x.0) c.self.view_is) at (length_places s.turn s.size s.bytes.items i.turned (omega (arith, within))) in
    rw (← c.self.view_is)
    (out_at_once c.args.at s.turn s.size c.place_of-place.result (length c.args.into.now) _ s.bytes.items c.copy_from_slice.new.self (omega (arith, size, c.requires.fits, c.if-count-eq0.false)) i.turned (omega (arith, within)) c.place_of-place.ensures
    (omega (arith, c.if-place-count.true)) (omega arith) (rw c.deref.ensures.value at c.copy_from_slice.ensures.after))

pub returns-clause-out : goal.returns-clause-out
returns-clause-out c =
    let s = c.self.inside in
    let i = c.self.invariant in
    let within = i.within in
    let count = length c.args.into.now in
    let place = c.place_of-place.result in
    let filled = c.fill.new.bytes.items in
    let size = rw (ap (λ (x : RingBytes). x.0) c.self.view_is) at (length_places s.turn s.size s.bytes.items i.turned (omega (arith, within))) in
    let pos : 0 < s.size = omega (arith, size, c.requires.fits, c.if-count-eq0.false) in
    let fits : count ≤ s.size = omega (arith, size, c.requires.fits) in
    let reaches : min (place + count) s.size ≤ length filled = omega (arith, c.fill.ensures.reaches) in
    let is = rw c.deref-2.ensures.value at c.pieces.ensures in
    let same = same_places s.turn s.size s.bytes.items filled (omega (arith, within)) (omega (arith, c.fill.ensures.within)) c.fill.ensures.same in
    rw (← c.self.view_is) (λ k below.
    out_at_twice count c.pieces.result.0.now c.pieces.result.1.now c.args.into.now c.write_at.new.into c.write_at-2.new.into (length_parts s.size place count filled c.pieces.result.0.now c.pieces.result.1.now fits reaches is) c.write_at.ensures.written c.write_at-2.ensures.written k below
    ∙ ap (λ xs. slice_index xs k) is
    ∙ part_at c.args.at s.turn s.size place count filled pos i.turned (omega (arith, c.fill.ensures.within)) c.place_of-place.ensures fits reaches k below
    ∙ ap (λ ring. slice_index ring ((c.args.at + k) % length ring)) same)
