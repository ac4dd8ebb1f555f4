use Rattle.std.proofs.Common.{◌∙◌, ◌+◌, ◌-◌, ap, arith, length}
use Rattle.qs_recv.proofs.RingLaws.{missing_gap, run_behind}
use Rattle.qs_recv.proofs.RingTurned.{filled_gap, filled_more}
use Rattle.qs_recv.proofs.ring_assembly.fill_gaps.Goals as goal

pub loop-at-preserved : goal.loop-at-preserved
loop-at-preserved c =
    let inv = c.loop-at.invariant in
    let gap = c.next_gap-next.ensures in
    let at = c.loop-at.at in
    let stop = c.loop-at.to in
    let next = c.next_gap-next.result.0 in
    let end = c.args.offset + length c.args.bytes.now in
    let some = inv.some c.loop-at-test.true in
    let stays = gap.stays in
    let within = inv.within in
    let none = inv.missing at (omega arith) some in
    let g = run_behind c.args.received.now at end stop next c.next_gap-next.result.1 some within inv.missing gap in
    record {
      begins = omega (arith, inv.begins, g.some);
      ends = g.ends;
      some = gap.some;
      within = (let e = gap.ends in omega (arith, e, within));
      missing = gap.missing;
      counted = ap (λ k. k + (stop - at)) inv.counted ∙ missing_gap c.args.received.now c.args.first at end stop next inv.begins none g;
      small = omega (arith, inv.begins, inv.small, some, g.ordered);
      same_len = c.write-in-loop-at.ensures.same_len ∙ inv.same_len;
      kept = λ q is. c.write-in-loop-at.ensures.kept q (inv.kept q is);
      there = filled_more c.args.received.now c.args.first at stop next c.args.offset c.args.bytes.now c.loop-at.ring c.write-in-loop-at.new.self inv.there c.write-in-loop-at.ensures.kept c.write-in-loop-at.ensures.there
          (omega (arith, c.requires.begins, inv.begins)) (omega (arith, some)) within gap.came;
      filled = filled_gap c.args.received.now c.args.first at end stop next c.args.offset c.args.bytes.now c.args.ring.now.0 c.loop-at.ring.0 c.write-in-loop-at.new.self.0 c.requires.begins inv.begins (omega arith) some g
          inv.same_len inv.filled c.write-in-loop-at.ensures.written;
    }
