use Rattle.std.proofs.Common.{◌≡◌, ◌∙◌, ◌+◌, ◌-◌, sym, ap, arith, length, refl}
use Rattle.qs_recv.specs.Ring.{missing_count}
use Rattle.qs_recv.proofs.RingApart.{apart_gap, apart_none}
use Rattle.qs_recv.proofs.RingLaws.{missing_gap, missing_zero, run_behind}
use Rattle.qs_recv.proofs.ring_assembly.fill_apart.Goals as goal

pub loop-at-init : goal.loop-at-init
loop-at-init c =
    let none : c.args.first - c.args.first ≡ 0 = omega arith in
    record {
      begins = omega arith;
      ends = omega (arith, c.requires.some, c.requires.ends);
      some = λ _. c.requires.some;
      within = c.requires.ends;
      missing = c.requires.missing;
      counted = sym (ap (missing_count c.args.received.now c.args.first) none ∙ missing_zero c.args.received.now c.args.first);
      small = omega arith;
      whole = c.requires.whole;
      stay = λ n. refl;
      filled = apart_none c.args.received.now c.args.first c.args.offset c.args.bytes.now c.args.apart.now.pages;
    }

pub loop-at-preserved : goal.loop-at-preserved
loop-at-preserved c =
    let inv = c.loop-at.invariant in
    let gap = c.next_gap-next.ensures in
    let at = c.loop-at.at in
    let stop = c.loop-at.to in
    let next = c.next_gap-next.result.0 in
    let end = c.args.offset + length c.args.bytes.now in
    let some = inv.some c.loop-at-test.true in
    let stays = gap.stays in
    let within = inv.within in
    let none = inv.missing at (omega arith) some in
    let g = run_behind c.args.received.now at end stop next c.next_gap-next.result.1 some within inv.missing gap in
    record {
      begins = omega (arith, inv.begins, g.some);
      ends = g.ends;
      some = gap.some;
      within = (let e = gap.ends in omega (arith, e, within));
      missing = gap.missing;
      counted = ap (λ k. k + (stop - at)) inv.counted ∙ missing_gap c.args.received.now c.args.first at end stop next inv.begins none g;
      small = omega (arith, inv.begins, inv.small, some, g.ordered);
      whole = c.write.ensures.whole;
      stay = λ n. c.write.ensures.stay n ∙ inv.stay n;
      filled = apart_gap c.args.received.now c.args.first at end stop next c.args.offset c.args.bytes.now c.args.apart.now.pages c.loop-at.apart.pages c.write.new.self.pages c.requires.begins inv.begins (omega arith) some g
          inv.filled c.write.ensures.written;
    }
