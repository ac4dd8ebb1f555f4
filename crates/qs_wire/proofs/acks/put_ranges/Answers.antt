use Rattle.std.proofs.Common.{◌≡◌, ℕ, ◌+◌, ◌≤◌, List, ◌++◌, length, take, sym, subst, arith}
use Rattle.std.proofs.lemmas.List.{length-append}
use Rattle.qs_wire.specs.Varint.{short}
use Rattle.qs_wire.specs.Writing.{Puts}
use Rattle.qs_wire.proofs.Numbers.{length-short}
use Rattle.qs_wire.proofs.PairLaws.{text_below, last_more, next_text, length-next_text, text_grows, lies_below, last_le}
use Rattle.qs_wire.proofs.Writes.{Puts-then}
use Rattle.qs_wire.proofs.acks.put_ranges.Goals as goal

pub gap_and_length-gap-requires-clause-lies : goal.gap_and_length-gap-requires-clause-lies
gap_and_length-gap-requires-clause-lies c = rw c.loop-pair.invariant.above (lies_below c.args.smallest c.args.pairs.now c.loop-pair.pair-index (0, 0) c.requires.apart c.loop-pair-test.true)

pub gap_and_length-gap-requires-clause-below : goal.gap_and_length-gap-requires-clause-below
gap_and_length-gap-requires-clause-below c = omega (arith, c.loop-pair.invariant.above, last_le c.args.smallest c.args.pairs.now c.loop-pair.pair-index c.requires.apart)

pub returns-then-not-two_fit-clause-most : goal.returns-then-not-two_fit-clause-most
returns-then-not-two_fit-clause-most c = λ n lt le.
    let ps = c.args.pairs.now in
    let i = c.loop-pair.pair-index in
    let g = c.gap_and_length-gap in
    let text = next_text c.args.smallest ps i (0, 0) c.loop-pair.above g.result.0 g.result.1 c.loop-pair-test.true c.loop-pair.invariant.above g.ensures.gap g.ensures.len in
    let more = length-next_text (text_below c.args.smallest (take i ps)) g.result.0 g.result.1 (text_below c.args.smallest (take (i + 1) ps)) text in
    let reach : i + 1 ≤ n = omega (arith, c.loop-pair.invariant.count) in
    omega (arith, more, text_grows c.args.smallest ps (i + 1) n reach, length-short g.result.0, length-short g.result.1, c.two_fit.ensures.over c.if-not-two_fit.true, c.loop-pair.invariant.next, c.loop-pair.invariant.within, c.loop-pair.auto.out)

pub put_number-next-requires-clause-room : goal.put_number-next-requires-clause-room
put_number-next-requires-clause-room c = omega (arith, length-short c.gap_and_length-gap.result.0, c.two_fit.ensures.fit c.if-not-two_fit.false, c.loop-pair.invariant.within, c.loop-pair.auto.out)

pub put_number-next-requires-in-loop-pair-clause-room : goal.put_number-next-requires-in-loop-pair-clause-room
put_number-next-requires-in-loop-pair-clause-room c =
    let g = c.gap_and_length-gap in
    omega (arith, length-short g.result.0, length-short g.result.1, c.two_fit.ensures.fit c.if-not-two_fit.false, c.loop-pair.invariant.within, c.loop-pair.auto.out, c.put_number-next.auto.out, c.put_number-next.ensures.next)

pub loop-pair-preserved : goal.loop-pair-preserved
loop-pair-preserved c =
    let ps = c.args.pairs.now in
    let i = c.loop-pair.pair-index in
    let g = c.gap_and_length-gap in
    let front = text_below c.args.smallest (take i ps) in
    let a = c.put_number-next in
    let b = c.put_number-next-in-loop-pair in
    let text = next_text c.args.smallest ps i (0, 0) c.loop-pair.above g.result.0 g.result.1 c.loop-pair-test.true c.loop-pair.invariant.above g.ensures.gap g.ensures.len in
    let more = length-next_text front g.result.0 g.result.1 (text_below c.args.smallest (take (i + 1) ps)) text in
    let one = Puts-then c.args.at c.loop-pair.next front (short g.result.0) c.args.out.now c.loop-pair.out a.new.out c.loop-pair.invariant.puts c.loop-pair.invariant.next a.ensures.puts in
    let next : a.result ≡ c.args.at + length (front ++ short g.result.0) = omega (arith, length-append front (short g.result.0), a.ensures.next, c.loop-pair.invariant.next) in
    let two = Puts-then c.args.at a.result (front ++ short g.result.0) (short g.result.1) c.args.out.now a.new.out b.new.out one next b.ensures.puts in
    record {
      count = omega (arith, c.loop-pair.invariant.count);
      next = omega (arith, more, a.ensures.next, b.ensures.next, c.loop-pair.invariant.next);
      within = omega (arith, a.ensures.next, b.ensures.next, length-short g.result.0, length-short g.result.1, c.two_fit.ensures.fit c.if-not-two_fit.false, c.loop-pair.invariant.within, c.loop-pair.auto.out);
      puts = subst (λ (t : List ℕ). Puts c.args.at t c.args.out.now b.new.out) (sym text) two;
      above = let e = last_more c.args.smallest ps i (0, 0) c.loop-pair-test.true in cc;
    }
