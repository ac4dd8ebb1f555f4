use Rattle.std.specs.Cmp.{unsigned_Decides}
use Rattle.std.proofs.lemmas.Slice.Eq.{slice_eq-Decides}
use Rattle.qs_chunks.proofs.SameChunks.{one_by_slices}
use Rattle.qs_chunks.proofs.chunk.are_one.Goals as goal

pub returns : goal.returns
returns c =
    one_by_slices c.args.at c.args.offset c.max-from.result c.min-to.result c.args.own.now c.args.bytes.now c.eq.result c.max-from.ensures c.min-to.ensures c.if-from-to.false
    (slice_eq-Decides unsigned_Decides _ _ c.eq.result c.eq.ensures)
