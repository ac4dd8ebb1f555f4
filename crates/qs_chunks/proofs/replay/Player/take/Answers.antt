use Rattle.std.proofs.Common.{rules, ◌∙◌, ◌≡◌, ap, length}
use Rattle.qs_recv.specs.Assembled.{front_of}
use Rattle.qs_chunks.proofs.ReplayLaws.{played_take, front_room, cut_buffer, taken_same}
use Rattle.qs_chunks.proofs.replay.Player.take.Goals as goal

pub invariant_of-self : goal.invariant_of-self
invariant_of-self g c = rw (c.take-count.ensures.rest, c.take-count.ensures.count) (played_take _ _ _ _ _ c.self.invariant)

pub returns-clause-bytes : goal.returns-clause-bytes
returns-clause-bytes g c =
    let a = g.A.Assembly.holds c.self.inside.assembly in
    let vector = c.in_ok-bytes.bytes in
    let len : length vector.items ≡ vector.len = search rules in
    let room : vector.len ≡ c.min-room.result = c.in_ok-bytes.ensures.len in
    let same = front_room a c.args.size c.min-room.result (rw (← c.stored.ensures) c.min-room.ensures) in
    rw (← c.self.view_is)
    (cut_buffer a vector.items c.take-count.new.into c.truncate.new.self.items vector.len c.take-count.result len (rw (← c.deref_mut.ensures.value) c.take-count.ensures.count)
    (rw (← c.deref_mut.ensures.value) c.take-count.ensures.bytes) c.truncate.ensures.items ∙ ap (front_of a) room ∙ same)

pub returns-clause-after : goal.returns-clause-after
returns-clause-after g c =
    let a = g.A.Assembly.holds c.self.inside.assembly in
    let vector = c.in_ok-bytes.bytes in
    let len : length vector.items ≡ vector.len = search rules in
    let room : vector.len ≡ c.min-room.result = c.in_ok-bytes.ensures.len in
    let same = front_room a c.args.size c.min-room.result (rw (← c.stored.ensures) c.min-room.ensures) in
    rw (← c.self.view_is) (rw c.take-count.ensures.rest (taken_same a _ c.args.size (rw c.deref_mut.ensures.value (ap (front_of a) (len ∙ room) ∙ same))))
