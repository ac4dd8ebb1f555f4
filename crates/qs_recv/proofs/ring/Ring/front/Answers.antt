use Rattle.std.proofs.Common.{ap, arith, vec_len}
use Rattle.qs_recv.specs.Ring.{RingBytes}
use Rattle.qs_recv.proofs.RingApart.{shown_at}
use Rattle.qs_recv.proofs.RingTurned.{length_places, reached}
use Rattle.qs_recv.proofs.ring.Ring.front.Goals as goal

pub pieces-requires-clause-reaches : goal.pieces-requires-clause-reaches
pieces-requires-clause-reaches c =
    let s = c.self.inside in
    let i = c.self.invariant in
    let within = i.within in
    let size = rw (ap (λ (x : RingBytes). x.0) c.self.view_is) at (length_places s.turn s.size s.bytes.items i.turned (omega (arith, within))) in
    let reaches = reached c.args.at s.turn s.size c.place_of-place.result c.args.count (vec_len s.bytes) s.bytes.items (omega (arith, size, c.requires.fits, c.requires.wanted)) i.turned (omega (arith, within)) c.place_of-place.ensures
    c.requires.wanted (omega (arith, size, c.requires.fits)) (rw (← c.self.view_is) at c.requires.there) in
    rw c.deref.ensures.value (omega (arith, reaches))

pub returns-clause-whole : goal.returns-clause-whole
returns-clause-whole c =
    let s = c.self.inside in
    let i = c.self.invariant in
    let within = i.within in
    let size = rw (ap (λ (x : RingBytes). x.0) c.self.view_is) at (length_places s.turn s.size s.bytes.items i.turned (omega (arith, within))) in
    let reaches = reached c.args.at s.turn s.size c.place_of-place.result c.args.count (vec_len s.bytes) s.bytes.items (omega (arith, size, c.requires.fits, c.requires.wanted)) i.turned (omega (arith, within)) c.place_of-place.ensures
    c.requires.wanted (omega (arith, size, c.requires.fits)) (rw (← c.self.view_is) at c.requires.there) in
    (shown_at c.args.at s.turn s.size c.place_of-place.result c.args.count s.bytes.items c.pieces.result.0.now c.pieces.result.1.now (omega (arith, size, c.requires.fits, c.requires.wanted)) i.turned (omega (arith, within)) c.place_of-place.ensures
    (omega (arith, size, c.requires.fits)) (omega (arith, reaches)) (rw c.deref.ensures.value at c.pieces.ensures)).0

pub returns-clause-there : goal.returns-clause-there
returns-clause-there c =
    let s = c.self.inside in
    let i = c.self.invariant in
    let within = i.within in
    let size = rw (ap (λ (x : RingBytes). x.0) c.self.view_is) at (length_places s.turn s.size s.bytes.items i.turned (omega (arith, within))) in
    let reaches = reached c.args.at s.turn s.size c.place_of-place.result c.args.count (vec_len s.bytes) s.bytes.items (omega (arith, size, c.requires.fits, c.requires.wanted)) i.turned (omega (arith, within)) c.place_of-place.ensures
    c.requires.wanted (omega (arith, size, c.requires.fits)) (rw (← c.self.view_is) at c.requires.there) in
    rw (← c.self.view_is)
    (shown_at c.args.at s.turn s.size c.place_of-place.result c.args.count s.bytes.items c.pieces.result.0.now c.pieces.result.1.now (omega (arith, size, c.requires.fits, c.requires.wanted)) i.turned (omega (arith, within)) c.place_of-place.ensures
    (omega (arith, size, c.requires.fits)) (omega (arith, reaches)) (rw c.deref.ensures.value at c.pieces.ensures)).1
