use Rattle.std.proofs.Common.{ℕ, ◌+◌, List, take, sym, subst, arith}
use Rattle.std.specs.List.{flat_map}
use Rattle.qs_wire.specs.Varint.{short}
use Rattle.qs_wire.specs.Writing.{Puts}
use Rattle.qs_wire.proofs.Writes.{length_more, text_more, text_within, Puts-then}
use Rattle.qs_wire.proofs.writing.put_numbers.Goals as goal

pub put_number-at-requires-clause-room : goal.put_number-at-requires-clause-room
put_number-at-requires-clause-room c =
    let ns = c.args.numbers.now in
    let i = c.loop-number.number-index in
    omega (arith, length_more short ns i 0 c.loop-number-test.true, text_within short ns (i + 1), c.requires.room, c.loop-number.invariant.at_end, c.loop-number.auto.out)

pub loop-number-preserved : goal.loop-number-preserved
loop-number-preserved c =
    let ns = c.args.numbers.now in
    let i = c.loop-number.number-index in
    let more = text_more short ns i 0 c.loop-number-test.true in
    record {
      at_end = omega (arith, length_more short ns i 0 c.loop-number-test.true, c.put_number-at.ensures.next, c.loop-number.invariant.at_end);
      puts = subst (λ (t : List ℕ). Puts 0 t c.args.out.now c.put_number-at.new.out) (sym more) (Puts-then 0 c.loop-number.at (flat_map short (take i ns)) _ c.args.out.now c.loop-number.out c.put_number-at.new.out c.loop-number.invariant.puts (omega (arith, c.loop-number.invariant.at_end)) c.put_number-at.ensures.puts);
    }
