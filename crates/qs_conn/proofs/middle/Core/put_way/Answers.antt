use Rattle.std.proofs.Common.{◌+◌, ◌∙◌, arith, subst, sym, take, rules}
use Rattle.std.proofs.lemmas.Bool.{true≢false}
use Rattle.qs_conn.specs.Middle.{end_of}
use Rattle.qs_conn.specs.Filling.{Flow, turn_at}
use Rattle.qs_conn.proofs.Cores.{fills_same, fills_on}
use Rattle.qs_conn.proofs.Flows.{flow_idle, flow_way, off_way}
use Rattle.qs_conn.proofs.middle.Core.put_way.Goals as goal

pub returns-then-packet-clause-flow : goal.returns-then-packet-clause-flow
returns-then-packet-clause-flow c = search (rules, flow_way, true≢false)

pub loop-stream-init : goal.loop-stream-init
loop-stream-init c = search (rules, fills_same)

pub loop-stream-preserved : goal.loop-stream-preserved
loop-stream-preserved c =
    let stream = c.in-Some.stream in
    let around = c.args.around in
    let first = c.args.first in
    record {
      small = omega (arith, c.value-from.ensures.in_range);
      begun = omega (arith, c.loop-stream.invariant.begun, c.in-Some.ensures.from, c.value-from.ensures.same);
      flow = λ wish room old e all at start. (
          let before = c.loop-stream.invariant.flow wish room old e all at start in
          let here = flow_idle wish room old (take c.loop-stream.packet.len c.loop-stream.out) (end_of c.loop-stream.self e) c.loop-stream.packet.quota c.loop-stream.packet.is_full around first c.loop-stream.from stream c.in-Some.ensures.from
          (λ n. c.in-Some.ensures.none n e) before in
          let after = c.put_chunks-packet.ensures.flow around first wish room old e (all stream) (at ∙ sym c.loop-stream.invariant.filled.room) (c.is_on_way.ensures.0 c.if-not-is_on_way.false) here in
          subst (λ n. Flow wish room old (take c.put_chunks-packet.result.len c.put_chunks-packet.new.out) (end_of c.put_chunks-packet.new.self e) c.put_chunks-packet.result.quota c.put_chunks-packet.result.is_full (turn_at around first (n + 1))) (sym c.value-from.ensures.same) after);
      filled = fills_on _ _ _ _ _ _ _ _ _ _ _ c.loop-stream.invariant.filled c.put_chunks-packet.ensures.filled;
    }

pub returns-then-not-is_on_way-clause-flow : goal.returns-then-not-is_on_way-clause-flow
returns-then-not-is_on_way-clause-flow c = λ wish room old e all at start.
    flow_way wish room old (take c.loop-stream.packet.len c.loop-stream.out) (end_of c.loop-stream.self e) c.loop-stream.packet.quota c.loop-stream.packet.is_full c.args.around c.args.first c.loop-stream.from
    (λ open_end n le on. c.in-Some.ensures.none n e le (off_way c.args.around c.args.first c.loop-stream.from c.in-Some.stream n c.loop-stream.invariant.begun c.in-Some.ensures.from (λ is. true≢false (sym (c.is_on_way.ensures.1 is) ∙ c.if-not-is_on_way.true)) on))
    (c.loop-stream.invariant.flow wish room old e all at start)

pub returns-then-packet-2-clause-flow : goal.returns-then-packet-2-clause-flow
returns-then-packet-2-clause-flow c = λ wish room old e all at start. (
    let stream = c.in-Some.stream in
    let around = c.args.around in
    let first = c.args.first in
    let before = c.loop-stream.invariant.flow wish room old e all at start in
    let here = flow_idle wish room old (take c.loop-stream.packet.len c.loop-stream.out) (end_of c.loop-stream.self e) c.loop-stream.packet.quota c.loop-stream.packet.is_full around first c.loop-stream.from stream c.in-Some.ensures.from
    (λ n. c.in-Some.ensures.none n e) before in
    let after = c.put_chunks-packet.ensures.flow around first wish room old e (all stream) (at ∙ sym c.loop-stream.invariant.filled.room) (c.is_on_way.ensures.0 c.if-not-is_on_way.false) here in
    flow_way wish room old (take c.put_chunks-packet.result.len c.put_chunks-packet.new.out) (end_of c.put_chunks-packet.new.self e) c.put_chunks-packet.result.quota c.put_chunks-packet.result.is_full around first (stream + 1) (λ open_end. absurd (true≢false (sym c.if-packet-2.true ∙ open_end))) after)

pub returns-clause-flow : goal.returns-clause-flow
returns-clause-flow c = λ wish room old e all at start.
    flow_way wish room old (take c.loop-stream.packet.len c.loop-stream.out) (end_of c.loop-stream.self e) c.loop-stream.packet.quota c.loop-stream.packet.is_full c.args.around c.args.first c.loop-stream.from
    (λ open_end n le on. c.in_default.ensures.none n e le tt)
    (c.loop-stream.invariant.flow wish room old e all at start)

pub returns-then-packet-2-clause-filled : goal.returns-then-packet-2-clause-filled
returns-then-packet-2-clause-filled c = fills_on _ _ _ _ _ _ _ _ _ _ _ c.loop-stream.invariant.filled c.put_chunks-packet.ensures.filled

pub put_chunks-packet-requires-clause-memory : goal.put_chunks-packet-requires-clause-memory
put_chunks-packet-requires-clause-memory c = c.loop-stream.invariant.filled.memory 0 c.requires.memory
