use Rattle.std.proofs.Common.{◌≡◌, ◌+◌, ◌∙◌, arith, sym, ap, refl, subst, length, take, rules}
use Rattle.qs_conn.specs.Middle.{HasMemory, own_items, end_of}
use Rattle.qs_conn.specs.Filling.{slot_at, slot_place, kind_past, Stage}
use Rattle.qs_conn.proofs.Cores.{core_cleared, fills_same, fills_on, fills_within, fills_marks}
use Rattle.qs_conn.proofs.Owns.{marked_at}
use Rattle.qs_machine.specs.Ends.{End}
use Rattle.qs_conn.specs.Marks.{IsIdle}
use Rattle.qs_conn.proofs.Stages.{adds_below, adds_kind, past_at}
use Rattle.qs_conn.proofs.MadePackets.{stage_more, stage_full, own_kind}
use Rattle.qs_conn.proofs.middle.Core.put_marked.Goals as goal

pub loop-stream-init : goal.loop-stream-init
loop-stream-init c = search (rules, fills_same)

pub loop-stream-preserved : goal.loop-stream-preserved
loop-stream-preserved c =
    let stream = c.in-Some.stream in
    record {
      small = omega (arith, c.value-from.ensures.in_range);
      stage = λ wish room old e at start. (
          let here = stage_more wish room old (take c.loop-stream.packet.len c.loop-stream.out) (end_of c.loop-stream.self e) c.loop-stream.packet.is_full (slot_place (slot_at c.args.kind c.loop-stream.from)) (slot_place (slot_at c.args.kind stream)) (adds_below _ c.args.kind c.loop-stream.from stream (λ n. c.in-Some.ensures.idle n e)) (c.loop-stream.invariant.stage wish room old e at start) in
          rw (c.value-from.ensures.same, ← past_at c.args.kind stream c.at.result c.at.ensures) (c.put_slot-packet.ensures.stage wish room old e (at ∙ sym c.loop-stream.invariant.filled.room) (rw c.at.ensures here)));
      still = λ s e idle. c.put_slot-packet.ensures.still s e (c.loop-stream.invariant.still s e idle);
      filled = (
          let none = ap own_items c.at.ensures ∙ own_kind c.args.kind stream in
          let put = fills_within _ _ _ _ _ _ _ 0 (omega (arith, none)) (fills_on _ _ _ _ _ _ _ _ _ _ _ c.loop-stream.invariant.filled c.put_slot-packet.ensures.filled) in
          let idle : (e : End) → IsIdle (end_of c.put_slot-packet.new.self e) (slot_at c.args.kind stream) = rw c.at.ensures at c.put_slot-packet.ensures.idle c.if-packet-2.false in
          fills_on _ _ _ _ _ _ _ _ _ 0 0 put (fills_marks _ _ _ _ _ put.filling (core_cleared _ put.filling.core c.args.kind stream _ (rw c.task.ensures at c.set.ensures) idle) refl));
    }

pub returns-clause-stage : goal.returns-clause-stage
returns-clause-stage c = λ wish room old e at start.
    stage_more wish room old (take c.loop-stream.packet.len c.loop-stream.out) (end_of c.loop-stream.self e) c.loop-stream.packet.is_full (slot_place (slot_at c.args.kind c.loop-stream.from)) (kind_past c.args.kind)
    (adds_kind _ c.args.kind c.loop-stream.from (λ n le. c.in_default.ensures.idle n e le tt)) (c.loop-stream.invariant.stage wish room old e at start)

pub returns-then-packet-2-clause-stage : goal.returns-then-packet-2-clause-stage
returns-then-packet-2-clause-stage c = λ wish room old e at start. (
    let stream = c.in-Some.stream in
    let here = stage_more wish room old (take c.loop-stream.packet.len c.loop-stream.out) (end_of c.loop-stream.self e) c.loop-stream.packet.is_full (slot_place (slot_at c.args.kind c.loop-stream.from)) (slot_place (slot_at c.args.kind stream)) (adds_below _ c.args.kind c.loop-stream.from stream (λ n. c.in-Some.ensures.idle n e)) (c.loop-stream.invariant.stage wish room old e at start) in
    let after = c.put_slot-packet.ensures.stage wish room old e (at ∙ sym c.loop-stream.invariant.filled.room) (rw c.at.ensures here) in
    stage_full wish room old (take c.put_slot-packet.result.len c.put_slot-packet.new.out) (end_of c.put_slot-packet.new.self e) c.put_slot-packet.result.is_full _ (kind_past c.args.kind) c.if-packet-2.true after)

pub returns-then-packet-2-clause-filled : goal.returns-then-packet-2-clause-filled
returns-then-packet-2-clause-filled c =
    let none = ap own_items c.at.ensures ∙ own_kind c.args.kind c.in-Some.stream in
    fills_within _ _ _ _ _ _ _ _ (omega (arith, none)) (fills_on _ _ _ _ _ _ _ _ _ _ _ c.loop-stream.invariant.filled c.put_slot-packet.ensures.filled)

pub put_slot-packet-requires-clause-memory : goal.put_slot-packet-requires-clause-memory
put_slot-packet-requires-clause-memory c =
    let none : own_items c.at.result ≡ 0 = ap own_items c.at.ensures ∙ own_kind c.args.kind c.in-Some.stream in
    subst (λ k. HasMemory c.loop-stream.self (length c.loop-stream.out) c.loop-stream.packet.len k) (sym none) (c.loop-stream.invariant.filled.memory 0 c.requires.memory)

pub put_slot-packet-requires-clause-marked : goal.put_slot-packet-requires-clause-marked
put_slot-packet-requires-clause-marked c = rw c.at.ensures (marked_at c.loop-stream.self.due c.args.kind c.in-Some.stream c.in-Some.ensures.found.1)

pub returns-then-packet-2-clause-still : goal.returns-then-packet-2-clause-still
returns-then-packet-2-clause-still c = λ s e idle. c.put_slot-packet.ensures.still s e (c.loop-stream.invariant.still s e idle)
