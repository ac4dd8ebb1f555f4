use Rattle.std.proofs.Common.{◌∙◌, arith, refl, sym, take, ap, rules}
use Rattle.std.proofs.lemmas.List.{length-take-le}
use Rattle.qs_calls.specs.declared.token.Token.{Token}
use Rattle.qs_conn.proofs.Cores.{core_outbox, kept_streams}
use Rattle.qs_conn.proofs.MadePackets.{packed_by, filled_next, idle_none, fill_exhausted, fill_none, fill_some, fill_order, memory_begun}
use Rattle.qs_conn.proofs.Rests.{behind_none, behind_kept}
use Rattle.qs_conn.proofs.endpoint.Endpoint.fill.Goals as goal

pub returns-then-number-gt-MAX_VARINT-clause-step : goal.returns-then-number-gt-MAX_VARINT-clause-step
returns-then-number-gt-MAX_VARINT-clause-step c = search (rules, fill_exhausted)

pub fill-packet-requires-clause-filling : goal.fill-packet-requires-clause-filling
fill-packet-requires-clause-filling c =
    let core = c.self.inside.core in
    record { core = core_outbox core c.self.invariant.rest.core core.outbox.next _ c.begin.new.self c.in_default.ensures.ok; within = omega arith }

pub fill-packet-requires-clause-memory : goal.fill-packet-requires-clause-memory
fill-packet-requires-clause-memory c = memory_begun c.self.inside.core _ _ c.begin.new.self c.in_default.ensures.ok c.most_pieces-most.ensures

pub invariant_of-self-then-len-eq0 : goal.invariant_of-self-then-len-eq0
invariant_of-self-then-len-eq0 c =
    let filled = c.fill-packet.ensures.filled in
    let p = packed_by _ c.args.self.now c.self.view_is (record c.self.inside.core { outbox = c.begin.new.self }) c.fill-packet.new.self c.args.want.now.first _ _ _ _ _ c.self.inside.ack_due c.self.invariant.rest.idle (rw c.in_default.ensures.ok refl) refl c.fill-packet.ensures.packed in
    let idle = idle_none _ c.fill-packet.new.self c.self.inside.ack_due _ _ _ _ _ _ p c.self.invariant.rest.idle (ap (λ k. take k c.fill-packet.new.out) c.if-len-eq0.true) in
    kept_streams c.self.inside.core _ _ _ _ _ c.self.invariant c.fill-packet.new.self (record { core = filled.filling.core; idle = idle }) (record { limits = filled.streams.limits; recvs = filled.streams.recvs }) filled.ended

pub returns-then-len-eq0-clause-step : goal.returns-then-len-eq0-clause-step
returns-then-len-eq0-clause-step c =
    let p = packed_by _ c.args.self.now c.self.view_is (record c.self.inside.core { outbox = c.begin.new.self }) c.fill-packet.new.self c.args.want.now.first _ _ _ _ _ c.self.inside.ack_due c.self.invariant.rest.idle (rw c.in_default.ensures.ok refl) refl c.fill-packet.ensures.packed in
    fill_none _ c.args.self.now c.self.view_is c.fill-packet.new.self c.args.want.now _ _ _ _ p (sym c.is_some.ensures ∙ c.if-is_some.false) (omega (arith, c.if-number-gt-MAX_VARINT.false, c.next-number.ensures)) (ap (λ k. take k c.fill-packet.new.out) c.if-len-eq0.true)

pub commit-requires : goal.commit-requires
commit-requires c =
    let p = packed_by _ c.args.self.now c.self.view_is (record c.self.inside.core { outbox = c.begin.new.self }) c.fill-packet.new.self c.args.want.now.first _ _ _ _ _ c.self.inside.ack_due c.self.invariant.rest.idle (rw c.in_default.ensures.ok refl) refl c.fill-packet.ensures.packed in
    omega (arith, filled_next _ c.fill-packet.new.self c.self.inside.ack_due _ _ _ _ _ _ p, c.if-number-gt-MAX_VARINT.false, c.next-number.ensures)

pub invariant_of-self-2 : goal.invariant_of-self-2
invariant_of-self-2 c = search (rules, core_outbox, kept_streams)

pub returns-clause-step : goal.returns-clause-step
returns-clause-step c =
    let p = packed_by _ c.args.self.now c.self.view_is (record c.self.inside.core { outbox = c.begin.new.self }) c.fill-packet.new.self c.args.want.now.first _ _ _ _ _ c.self.inside.ack_due c.self.invariant.rest.idle (rw c.in_default.ensures.ok refl) refl c.fill-packet.ensures.packed in
    fill_some _ c.args.self.now c.self.view_is c.fill-packet.new.self c.args.want.now _ _ _ _ p (sym c.is_some.ensures ∙ c.if-is_some.false) (omega (arith, c.if-number-gt-MAX_VARINT.false, c.next-number.ensures))
    c.settle.new.self c.commit.new.self c.next-number.result c.next-number.ensures c.commit.ensures.after c.settle.ensures
    c.token_of-token.result c.fill-packet.result.len c.last_stream-last_stream.result c.has_more-more.result c.self.invariant.rest.idle c.token_of-token.ensures c.last_stream-last_stream.ensures (rw c.may_follow.ensures at c.has_more-more.ensures)
    (omega (arith, c.if-len-eq0.false)) (sym (length-take-le _ _ c.fill-packet.ensures.filled.filling.within)) (omega (arith, c.fill-packet.ensures.filled.filling.within, c.fill-packet.ensures.filled.room))

pub returns-in-Err-clause-rest : goal.returns-in-Err-clause-rest
returns-in-Err-clause-rest c = search (rules, behind_none)

pub returns-then-len-eq0-clause-rest : goal.returns-then-len-eq0-clause-rest
returns-then-len-eq0-clause-rest c = search (rules)

pub returns-clause-rest : goal.returns-clause-rest
returns-clause-rest c = search (rules, behind_kept)

pub returns-in-Err-clause-order : goal.returns-in-Err-clause-order
returns-in-Err-clause-order c = c.unfilled.ensures.order _ _

pub returns-clause-order : goal.returns-clause-order
returns-clause-order c =
    let p = packed_by _ c.args.self.now c.self.view_is (record c.self.inside.core { outbox = c.begin.new.self }) c.fill-packet.new.self c.args.want.now.first _ _ _ _ _ c.self.inside.ack_due c.self.invariant.rest.idle (rw c.in_default.ensures.ok refl) refl c.fill-packet.ensures.packed in
    fill_order _ c.args.self.now c.self.view_is c.fill-packet.new.self c.args.want.now _ _ _ _ p (sym c.is_some.ensures ∙ c.if-is_some.false) (omega (arith, c.if-number-gt-MAX_VARINT.false, c.next-number.ensures))
    c.settle.new.self c.commit.new.self c.next-number.result c.next-number.ensures c.commit.ensures.after c.settle.ensures (record { token = c.token_of-token.result; len = c.fill-packet.result.len; last_stream = c.last_stream-last_stream.result; more = c.has_more-more.result }) (ap (λ (t : Token). t.number) c.token_of-token.ensures)
