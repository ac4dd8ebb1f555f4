use Rattle.std.proofs.Common.{ap, ◌-◌, arith, length, refl, vec_len, rules}
use Rattle.qs_recv.specs.Ring.{RingBytes}
use Rattle.qs_recv.proofs.RingTurned.{length_places, write_once, write_twice, all_written, once_written, stay_written}
use Rattle.qs_recv.proofs.ring.Ring.write.Goals as goal

pub returns-then-bytes-room-clause-written : goal.returns-then-bytes-room-clause-written
returns-then-bytes-room-clause-written c =
    let s = c.self.inside in
    let i = c.self.invariant in
    let within = i.within in
    let place = c.place_of-place.result in
    let size = rw (ap (λ (x : RingBytes). x.0) c.self.view_is) at (length_places s.turn s.size s.bytes.items i.turned (omega (arith, within))) in
    rw (← c.self.view_is)
    (write_once c.args.at s.turn s.size place c.args.bytes.now s.bytes.items c.write_over.new.into.items (omega (arith, size, c.requires.some)) i.turned (omega (arith, within)) (omega (arith, within, c.write_over.ensures.len, c.if-bytes-room.true, c.requires.fits, size))
    c.place_of-place.ensures (omega (arith, c.if-bytes-room.true)) c.write_over.ensures.written)

pub returns-else-bytes-room-clause-written : goal.returns-else-bytes-room-clause-written
returns-else-bytes-room-clause-written c =
    let s = c.self.inside in
    let i = c.self.invariant in
    let within = i.within in
    let place = c.place_of-place.result in
    let size = rw (ap (λ (x : RingBytes). x.0) c.self.view_is) at (length_places s.turn s.size s.bytes.items i.turned (omega (arith, within))) in
    let front_len = c.split_at.ensures.front_len in
    let back_len = c.split_at.ensures.back_len in
    rw (← c.self.view_is)
    (write_twice c.args.at s.turn s.size place (s.size - place) c.args.bytes.now c.split_at.result.0.now c.split_at.result.1.now s.bytes.items c.write_over-else-bytes-room.new.into.items c.write_over-else-bytes-room-2.new.into.items
    (omega (arith, size, c.requires.some)) i.turned (omega (arith, within)) (omega (arith, within, c.write_over-else-bytes-room.ensures.len, c.write_over-else-bytes-room-2.ensures.len, front_len, back_len, c.requires.fits, size))
    c.place_of-place.ensures (omega (arith, size, c.requires.fits)) refl c.if-bytes-room.false c.split_at.ensures.front c.split_at.ensures.back front_len back_len
    c.write_over-else-bytes-room.ensures.written c.write_over-else-bytes-room-2.ensures.written)

pub returns-then-bytes-room-clause-kept : goal.returns-then-bytes-room-clause-kept
returns-then-bytes-room-clause-kept c = rw (← c.self.view_is) (search (rules, length_places, stay_written))

pub returns-then-bytes-room-clause-there : goal.returns-then-bytes-room-clause-there
returns-then-bytes-room-clause-there c =
    let s = c.self.inside in
    let i = c.self.invariant in
    let within = i.within in
    let size = rw (ap (λ (x : RingBytes). x.0) c.self.view_is) at (length_places s.turn s.size s.bytes.items i.turned (omega (arith, within))) in
    let len = c.write_over.ensures.len in
    once_written c.args.at s.turn s.size c.place_of-place.result (length c.args.bytes.now) (vec_len c.write_over.new.into) c.write_over.new.into.items (omega (arith, size, c.requires.some)) i.turned
    (omega (arith, within, len, c.if-bytes-room.true, c.requires.fits, size)) c.place_of-place.ensures (omega (arith, c.if-bytes-room.true)) (omega (arith, len))

pub returns-else-bytes-room-clause-kept : goal.returns-else-bytes-room-clause-kept
returns-else-bytes-room-clause-kept c = rw (← c.self.view_is) (search (rules, length_places, stay_written))

pub returns-else-bytes-room-clause-there : goal.returns-else-bytes-room-clause-there
returns-else-bytes-room-clause-there c = search (rules, length_places, all_written)
