use Rattle.std.proofs.Common.{◌∙◌, sym, arith}
use Rattle.std.proofs.lemmas.Bool.{iff_false}
use Rattle.qs_chunks.proofs.SameChunks.{same_from, same_step, same_changed, same_end}
use Rattle.qs_chunks.proofs.chunk_list.ChunkList.agree.Goals as goal

pub loop-next-init : goal.loop-next-init
loop-next-init c =
    rw c.saturating_sub-next.ensures
    (same_from c.args.self.now c.place_past.result c.args.offset c.args.bytes.now c.requires.ordered c.place_past.ensures.within c.place_past.ensures.before)

pub returns-then-not-agrees : goal.returns-then-not-agrees
returns-then-not-agrees c =
    let changed = rw c.chunk-in-loop-next.ensures at (iff_false c.agrees.ensures c.if-not-agrees.true) in
    sym (c.loop-next.invariant ∙ same_changed c.args.self.now c.loop-next.next c.args.offset c.args.bytes.now (omega arith) changed)

pub loop-next-preserved : goal.loop-next-preserved
loop-next-preserved c =
    let one = rw c.chunk-in-loop-next.ensures at (c.agrees.ensures.0 c.if-not-agrees.false) in
    c.loop-next.invariant ∙ same_step c.args.self.now c.loop-next.next c.args.offset c.args.bytes.now c.requires.ordered (omega arith) one

pub returns-else-offset-end : goal.returns-else-offset-end
returns-else-offset-end c =
    let past = rw c.chunk.ensures at c.offset.ensures in
    sym (c.loop-next.invariant ∙ same_end c.args.self.now c.loop-next.next c.args.offset c.args.bytes.now c.requires.ordered (λ _. omega (arith, past)))

pub returns-after-loop-next : goal.returns-after-loop-next
returns-after-loop-next c =
    sym (c.loop-next.invariant ∙ same_end c.args.self.now c.loop-next.next c.args.offset c.args.bytes.now c.requires.ordered (λ more. absurd (omega (arith, more))))
