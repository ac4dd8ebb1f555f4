use Rattle.std.proofs.Common.{◌+◌, ◌≤◌, ◌<◌, sym}
use Rattle.qs_wire.specs.Varint.{short_len}
use Rattle.qs_send.specs.Chunks.{offset_len}
use Rattle.qs_send.proofs.Steps.{end_next, end_too_long}
use Rattle.qs_send.proofs.half.SendHalf.end_chunk.Goals as goal

pub returns-then-room-head_len-clause-none : goal.returns-then-room-head_len-clause-none
returns-then-room-head_len-clause-none c =
    let short : c.args.room ≤ 1 + short_len c.args.self.now.lane.id + offset_len c.args.self.now.lane.written = rw (← c.written-offset.ensures.exact, ← c.head_len.ensures.exact) c.if-room-head_len.true in
    λ fresh. end_too_long _ _ fresh c.requires short

pub returns-clause-found : goal.returns-clause-found
returns-clause-found c =
    let fits : 1 + short_len c.args.self.now.lane.id + offset_len c.args.self.now.lane.written < c.args.room = rw (← c.written-offset.ensures.exact, ← c.head_len.ensures.exact) c.if-room-head_len.false in
    λ fresh. rw c.written-offset.ensures.exact (end_next _ _ fresh c.learn_lawful.ensures c.requires (sym c.if-not-end_due.ensures) fits)
