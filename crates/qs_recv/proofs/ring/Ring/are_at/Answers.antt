use Rattle.std.proofs.Common.{ap, ◌-◌, arith, refl}
use Rattle.qs_recv.specs.Ring.{RingBytes}
use Rattle.qs_recv.proofs.RingTurned.{is_once, is_twice, length_places, not_front}
use Rattle.qs_recv.proofs.ring.Ring.are_at.Goals as goal

pub returns-then-count-room : goal.returns-then-count-room
returns-then-count-room c =
    let s = c.self.inside in
    let i = c.self.invariant in
    let within = i.within in
    let size = rw (ap (λ (x : RingBytes). x.0) c.self.view_is) at (length_places s.turn s.size s.bytes.items i.turned (omega (arith, within))) in
    rw (← c.self.view_is)
    (is_once c.args.at s.turn s.size c.place_of-place.result s.bytes.items c.args.bytes.now c.is_at.result (omega (arith, size, c.requires.fits, c.if-count-eq0.false)) i.turned (omega (arith, within)) c.place_of-place.ensures
    (omega (arith, c.if-count-room.true)) (rw c.deref.ensures.value at c.is_at.ensures))

pub returns-then-is_at : goal.returns-then-is_at
returns-then-is_at c =
    let s = c.self.inside in
    let i = c.self.invariant in
    let within = i.within in
    let place = c.place_of-place.result in
    let size = rw (ap (λ (x : RingBytes). x.0) c.self.view_is) at (length_places s.turn s.size s.bytes.items i.turned (omega (arith, within))) in
    rw (← c.self.view_is)
    (is_twice c.args.at s.turn s.size place (s.size - place) s.bytes.items c.args.bytes.now c.split_at.result.0.now c.split_at.result.1.now c.is_at-2.result c.is_at-then-is_at.result
    (omega (arith, size, c.requires.fits, c.if-count-room.false)) i.turned (omega (arith, within)) c.place_of-place.ensures (omega (arith, size, c.requires.fits)) refl c.if-count-room.false
    c.split_at.ensures.front c.split_at.ensures.back c.split_at.ensures.front_len c.split_at.ensures.back_len
    (rw c.deref-2.ensures.value at c.is_at-2.ensures) c.if-is_at.true (rw c.deref-then-is_at.ensures.value at c.is_at-then-is_at.ensures))

pub returns-else-is_at : goal.returns-else-is_at
returns-else-is_at c =
    let s = c.self.inside in
    let i = c.self.invariant in
    let within = i.within in
    let place = c.place_of-place.result in
    let size = rw (ap (λ (x : RingBytes). x.0) c.self.view_is) at (length_places s.turn s.size s.bytes.items i.turned (omega (arith, within))) in
    rw (← c.self.view_is)
    (not_front c.args.at s.turn s.size place (s.size - place) s.bytes.items c.args.bytes.now c.split_at.result.0.now c.is_at-2.result
    (omega (arith, size, c.requires.fits, c.if-count-room.false)) i.turned (omega (arith, within)) c.place_of-place.ensures refl c.if-count-room.false
    c.split_at.ensures.front c.split_at.ensures.front_len (rw c.deref-2.ensures.value at c.is_at-2.ensures) c.if-is_at.false)
