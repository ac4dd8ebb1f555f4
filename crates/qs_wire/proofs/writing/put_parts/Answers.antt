use Rattle.std.proofs.Common.{ℕ, ◌+◌, List, take, sym, subst, arith}
use Rattle.std.specs.List.{flat_map}
use Rattle.qs_wire.specs.Writing.{part_text, Puts}
use Rattle.qs_wire.specs.declared.writing.Part.TheVariants.{Nothing}
use Rattle.qs_wire.proofs.Writes.{length_more, text_more, text_within, Puts-then}
use Rattle.qs_wire.proofs.writing.put_parts.Goals as goal

pub put-at-requires-clause-room : goal.put-at-requires-clause-room
put-at-requires-clause-room c =
    let ps = c.args.parts.now in
    let i = c.loop-part.part-index in
    omega (arith, length_more part_text ps i Nothing c.loop-part-test.true, text_within part_text ps (i + 1), c.requires.room, c.loop-part.invariant.at_end, c.loop-part.auto.out)

pub loop-part-preserved : goal.loop-part-preserved
loop-part-preserved c =
    let ps = c.args.parts.now in
    let i = c.loop-part.part-index in
    let more = text_more part_text ps i Nothing c.loop-part-test.true in
    record {
      at_end = omega (arith, length_more part_text ps i Nothing c.loop-part-test.true, c.put-at.ensures.next, c.loop-part.invariant.at_end);
      puts = subst (λ (t : List ℕ). Puts 0 t c.args.out.now c.put-at.new.out) (sym more) (Puts-then 0 c.loop-part.at (flat_map part_text (take i ps)) _ c.args.out.now c.loop-part.out c.put-at.new.out c.loop-part.invariant.puts (omega (arith, c.loop-part.invariant.at_end)) c.put-at.ensures.puts);
    }
