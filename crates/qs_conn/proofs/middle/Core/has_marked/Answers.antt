use Rattle.std.proofs.Common.{◌+◌, arith, rules, false}
use Rattle.qs_conn.specs.Middle.{end_of}
use Rattle.qs_conn.specs.Filling.{kind_past, slot_at, slot_place}
use Rattle.qs_conn.proofs.Stages.{adds_below, adds_kind, past_at}
use Rattle.qs_conn.proofs.MadePackets.{tells_more}
use Rattle.qs_conn.proofs.Owns.{marked_at}
use Rattle.qs_conn.proofs.Places.{due_found, slot_none}
use Rattle.qs_conn.proofs.middle.Core.has_marked.Goals as goal

pub loop-stream-init : goal.loop-stream-init
loop-stream-init c = search (rules)

pub loop-stream-preserved : goal.loop-stream-preserved
loop-stream-preserved c =
    let kind = c.args.kind in
    let stream = c.in-Some.stream in
    record {
      small = omega (arith, c.value-from.ensures.in_range);
      none = λ e before. (
          let there = end_of c.args.self.now e in
          let here = tells_more there false (slot_place (slot_at kind c.loop-stream.from)) (slot_place (slot_at kind stream)) (adds_below there kind c.loop-stream.from stream (λ n. c.in-Some.ensures.idle n e)) (c.loop-stream.invariant.none e before) in
          rw (c.value-from.ensures.same, ← past_at kind stream c.at.result c.at.ensures) (slot_none there c.at.result c.due_in.result c.is_some.result c.is_some.ensures c.if-is_some.false (c.due_in.ensures.due e) (rw c.at.ensures here)));
    }

pub returns-then-is_some : goal.returns-then-is_some
returns-then-is_some c = λ e before. due_found (end_of c.args.self.now e) c.at.result c.due_in.result (rw c.is_some.ensures at c.if-is_some.true) (c.due_in.ensures.due e)

pub returns : goal.returns
returns c = λ e before.
    tells_more (end_of c.args.self.now e) false (slot_place (slot_at c.args.kind c.loop-stream.from)) (kind_past c.args.kind) (adds_kind _ c.args.kind c.loop-stream.from (λ n le. c.in_default.ensures.idle n e le tt)) (c.loop-stream.invariant.none e before)

pub due_in-requires-clause-marked : goal.due_in-requires-clause-marked
due_in-requires-clause-marked c = rw c.at.ensures (marked_at c.args.self.now.due c.args.kind c.in-Some.stream c.in-Some.ensures.found.1)
