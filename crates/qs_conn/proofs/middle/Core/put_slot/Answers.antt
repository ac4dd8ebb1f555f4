use Rattle.std.proofs.Common.{take, inl}
use Rattle.qs_conn.specs.Middle.{end_of}
use Rattle.qs_conn.proofs.Cores.{core_item, fills_outbox}
use Rattle.qs_conn.specs.Filling.{slot_place, slot_past}
use Rattle.qs_conn.proofs.Stages.{adds_slot}
use Rattle.qs_conn.proofs.MadePackets.{stage_more, stage_put, some_end, item_spare, item_memory, memory_marks, idle_puts}
use Rattle.qs_conn.proofs.Untolds.{may_tell, put_idle}
use Rattle.qs_conn.proofs.middle.Core.put_slot.Goals as goal

pub returns-in_default-clause-stage : goal.returns-in_default-clause-stage
returns-in_default-clause-stage c = λ wish room old e at.
    stage_more wish room old (take c.args.packet.len c.args.out.now) (end_of c.args.self.now e) c.args.packet.is_full (slot_place c.args.slot) (slot_past c.args.slot) (adds_slot _ c.args.slot (c.in_default.ensures.due e))

pub returns-clause-stage : goal.returns-clause-stage
returns-clause-stage c = λ wish room old e at stage.
    let self = c.args.self.now in
    let due = c.in-Some.ensures.due e in
    rw c.note_put.ensures.same (stage_put wish room old self.limits self.recvs self.outbox c.put_item-packet.new.outbox e c.args.out.now c.put_item-packet.new.out c.args.packet.len c.put_item-packet.result.len c.args.packet.is_full c.put_item-packet.result.is_full c.args.slot c.in-Some.item
    c.if-packet.false at c.requires.filling.within due.0 due.1 c.in-Some.ensures.fits c.put_item-packet.ensures.puts stage)

pub returns-clause-filled : goal.returns-clause-filled
returns-clause-filled c =
    let self = c.args.self.now in
    let put = c.put_item-packet.ensures in
    let due = c.in-Some.ensures.due (some_end self) in
    let core = core_item self c.requires.filling.core c.in-Some.item c.args.out.now c.args.packet.len c.put_item-packet.new.out c.put_item-packet.result.len c.put_item-packet.new.outbox c.put_item-packet.result.is_full c.note_put.new.self.due put.puts (some_end self) due.0.0 c.note_put.ensures.full c.note_put.ensures.put in
    rw c.note_put.ensures.same (fills_outbox self c.put_item-packet.new.outbox _ _ _ _ _ _ _ core put.within
    (λ left memory. memory_marks (record self { outbox = c.put_item-packet.new.outbox }) _ _ _ _ _ (item_memory self (some_end self) c.args.slot c.in-Some.item c.args.out.now c.put_item-packet.new.out c.args.packet.len c.put_item-packet.result.len c.put_item-packet.new.outbox c.put_item-packet.result.is_full _ _ left
    due.0.1 due.0.0 due.1 put.puts put.spare memory))
    put.rest put.room)

pub put_item-packet-requires-clause-spare : goal.put_item-packet-requires-clause-spare
put_item-packet-requires-clause-spare c =
    let self = c.args.self.now in
    let due = c.in-Some.ensures.due (some_end self) in
    item_spare self (some_end self) c.args.slot c.in-Some.item _ _ c.requires.memory due.0.1 due.0.0 due.1

pub put_item-packet-requires-clause-may : goal.put_item-packet-requires-clause-may
put_item-packet-requires-clause-may c =
    let self = c.args.self.now in
    may_tell (end_of self (some_end self)) c.in-Some.item (c.in-Some.ensures.due (some_end self)).0.0

pub put_item-packet-requires-clause-new : goal.put_item-packet-requires-clause-new
put_item-packet-requires-clause-new c = λ out. (c.in-Some.ensures.due (some_end c.args.self.now)).1 (inl out)

pub returns-in_default-clause-idle : goal.returns-in_default-clause-idle
returns-in_default-clause-idle c = λ full e. c.in_default.ensures.due e

pub returns-clause-idle : goal.returns-clause-idle
returns-clause-idle c = λ full e.
    let self = c.args.self.now in
    rw c.note_put.ensures.same (put_idle self.limits self.recvs self.outbox c.put_item-packet.new.outbox e c.in-Some.item c.args.slot _ _ _ _ c.put_item-packet.result.is_full c.put_item-packet.ensures.puts (c.in-Some.ensures.due e).0 full)

pub returns-clause-still : goal.returns-clause-still
returns-clause-still c = λ s e idle.
    let self = c.args.self.now in
    rw c.note_put.ensures.same (idle_puts self.limits self.recvs self.outbox c.put_item-packet.new.outbox e c.in-Some.item _ _ _ _ c.put_item-packet.result.is_full s c.put_item-packet.ensures.puts idle)
