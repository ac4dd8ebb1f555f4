use Rattle.std.proofs.Common.{◌+◌, arith}
use Rattle.qs_wire.specs.Writing.{part_text}
use Rattle.qs_wire.specs.declared.writing.Part.TheVariants.{Nothing}
use Rattle.qs_wire.proofs.Writes.{length_more, text_within}
use Rattle.qs_wire.proofs.writing.len_within.Goals as goal

pub returns-then-part_len-room-clause-none : goal.returns-then-part_len-room-clause-none
returns-then-part_len-room-clause-none c =
    let ps = c.args.parts.now in
    let i = c.loop-part.part-index in
    omega (arith, length_more part_text ps i Nothing c.loop-part-test.true, text_within part_text ps (i + 1), c.len-part_len.ensures)
