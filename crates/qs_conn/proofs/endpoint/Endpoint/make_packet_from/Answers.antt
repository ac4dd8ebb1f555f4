use Rattle.std.proofs.Common.{◌∙◌, arith, false, refl, sym, ap, take, rules}
use Rattle.std.proofs.lemmas.List.{length-take-le}
use Rattle.qs_conn.proofs.Cores.{core_outbox, kept_streams, kept_no_ack}
use Rattle.qs_conn.proofs.MadePackets.{ack_left, packed_by, filled_next, idle_none, make_exhausted, make_none, make_some, make_order, memory_begun}
use Rattle.qs_conn.proofs.Rests.{rest_none, rest_kept}
use Rattle.qs_conn.proofs.endpoint.Endpoint.make_packet_from.Goals as goal

pub returns-then-number-gt-MAX_VARINT-clause-step : goal.returns-then-number-gt-MAX_VARINT-clause-step
returns-then-number-gt-MAX_VARINT-clause-step c = search (rules, make_exhausted)

pub fill-len-requires-clause-filling : goal.fill-len-requires-clause-filling
fill-len-requires-clause-filling c =
    let core = c.self.inside.core in
    record { core = core_outbox core c.self.invariant.rest.core core.outbox.next _ c.begin.new.self c.in_default.ensures.ok; within = omega arith }

pub fill-len-requires-clause-memory : goal.fill-len-requires-clause-memory
fill-len-requires-clause-memory c = memory_begun c.self.inside.core _ _ c.begin.new.self c.in_default.ensures.ok c.most_pieces-most.ensures

pub invariant_of-self-then-len-eq0 : goal.invariant_of-self-then-len-eq0
invariant_of-self-then-len-eq0 c =
    let filled = c.fill-len.ensures.filled in
    let p = packed_by _ c.args.self.now c.self.view_is (record c.self.inside.core { outbox = c.begin.new.self }) c.fill-len.new.self c.args.first _ _ _ _ _ false c.self.invariant.rest.idle (rw c.in_default.ensures.ok refl) (ack_left c.self.inside.ack_due) c.fill-len.ensures.packed in
    let idle = idle_none _ c.fill-len.new.self false _ _ _ _ _ _ p c.self.invariant.rest.idle (ap (λ k. take k c.fill-len.new.out) c.if-len-eq0.true) in
    kept_streams c.self.inside.core _ _ _ _ _ c.self.invariant c.fill-len.new.self (record { core = filled.filling.core; idle = idle }) (record { limits = filled.streams.limits; recvs = filled.streams.recvs }) filled.ended

pub returns-then-len-eq0-clause-step : goal.returns-then-len-eq0-clause-step
returns-then-len-eq0-clause-step c =
    let p = packed_by _ c.args.self.now c.self.view_is (record c.self.inside.core { outbox = c.begin.new.self }) c.fill-len.new.self c.args.first _ _ _ _ _ false c.self.invariant.rest.idle (rw c.in_default.ensures.ok refl) (ack_left c.self.inside.ack_due) c.fill-len.ensures.packed in
    make_none _ c.args.self.now c.self.view_is c.fill-len.new.self c.args.first c.args.delay _ _ _ _ p (sym c.is_some.ensures ∙ c.if-is_some.false) (omega (arith, c.if-number-gt-MAX_VARINT.false, c.next-number.ensures)) (omega (arith, c.requires.least)) (ap (λ k. take k c.fill-len.new.out) c.if-len-eq0.true)

pub commit-requires : goal.commit-requires
commit-requires c =
    let p = packed_by _ c.args.self.now c.self.view_is (record c.self.inside.core { outbox = c.begin.new.self }) c.fill-len.new.self c.args.first _ _ _ _ _ false c.self.invariant.rest.idle (rw c.in_default.ensures.ok refl) (ack_left c.self.inside.ack_due) c.fill-len.ensures.packed in
    omega (arith, filled_next _ c.fill-len.new.self false _ _ _ _ _ _ p, c.if-number-gt-MAX_VARINT.false, c.next-number.ensures)

pub invariant_of-self-2 : goal.invariant_of-self-2
invariant_of-self-2 c = search (rules, core_outbox, kept_no_ack, kept_streams)

pub returns-clause-step : goal.returns-clause-step
returns-clause-step c =
    let p = packed_by _ c.args.self.now c.self.view_is (record c.self.inside.core { outbox = c.begin.new.self }) c.fill-len.new.self c.args.first _ _ _ _ _ false c.self.invariant.rest.idle (rw c.in_default.ensures.ok refl) (ack_left c.self.inside.ack_due) c.fill-len.ensures.packed in
    make_some _ c.args.self.now c.self.view_is c.fill-len.new.self c.args.first c.args.delay _ _ _ _ p (sym c.is_some.ensures ∙ c.if-is_some.false) (omega (arith, c.if-number-gt-MAX_VARINT.false, c.next-number.ensures))
    c.settle.new.self c.commit.new.self c.next-number.result c.has_piece-is_ack_eliciting.result c.next-number.ensures c.commit.ensures.after c.settle.ensures c.fill-len.result.len c.self.invariant.rest.idle c.has_piece-is_ack_eliciting.ensures
    (omega (arith, c.if-len-eq0.false)) (sym (length-take-le _ _ c.fill-len.ensures.filled.filling.within)) (omega (arith, c.fill-len.ensures.filled.filling.within, c.fill-len.ensures.filled.room)) c.requires.most

pub returns-in-Err-clause-rest : goal.returns-in-Err-clause-rest
returns-in-Err-clause-rest c = search (rules, rest_none)

pub returns-then-len-eq0-clause-rest : goal.returns-then-len-eq0-clause-rest
returns-then-len-eq0-clause-rest c = search (rules)

pub returns-clause-rest : goal.returns-clause-rest
returns-clause-rest c = search (rules, rest_kept)

pub returns-in-Err-clause-order : goal.returns-in-Err-clause-order
returns-in-Err-clause-order c = c.without_memory.ensures.order _ _

pub returns-clause-order : goal.returns-clause-order
returns-clause-order c =
    let p = packed_by _ c.args.self.now c.self.view_is (record c.self.inside.core { outbox = c.begin.new.self }) c.fill-len.new.self c.args.first _ _ _ _ _ false c.self.invariant.rest.idle (rw c.in_default.ensures.ok refl) (ack_left c.self.inside.ack_due) c.fill-len.ensures.packed in
    make_order _ c.args.self.now c.self.view_is c.fill-len.new.self c.args.first c.args.delay _ _ _ _ p (sym c.is_some.ensures ∙ c.if-is_some.false) (omega (arith, c.if-number-gt-MAX_VARINT.false, c.next-number.ensures))
    c.settle.new.self c.commit.new.self c.next-number.result c.has_piece-is_ack_eliciting.result c.next-number.ensures c.commit.ensures.after c.settle.ensures c.fill-len.result.len
