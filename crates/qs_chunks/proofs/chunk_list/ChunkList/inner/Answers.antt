use Rattle.std.proofs.Common.{◌≡◌, ◌+◌, ◌-◌, ◌∙◌, ap, arith, length}
use Rattle.qs_chunks.specs.Chunks.{end_of_piece}
use Rattle.qs_chunks.proofs.SpotLaws.{total-more, total_between}
use Rattle.qs_chunks.proofs.chunk_list.ChunkList.inner.Goals as goal

pub overflow_add-held : goal.overflow_add-held
overflow_add-held c =
    let held = total_between c.args.self.now c.args.first c.loop-after.after c.requires.ordered c.loop-after.invariant.ordered (omega arith) in
    let end = c.end.ensures.value ∙ ap end_of_piece c.chunk.ensures in
    let len = c.len-in-loop-after.ensures ∙ ap (λ p. length p.bytes) c.chunk-in-loop-after.ensures in
    omega (arith, held, end, len, c.end.ensures.in_range)

pub loop-after-preserved : goal.loop-after-preserved
loop-after-preserved c =
    let more = total-more c.args.self.now c.args.first c.loop-after.after c.loop-after.invariant.ordered (omega arith) in
    let end = c.end.ensures.value ∙ ap end_of_piece c.chunk.ensures in
    let len = c.len-in-loop-after.ensures ∙ ap (λ p. length p.bytes) c.chunk-in-loop-after.ensures in
    let e : c.loop-after.after + 1 - 1 ≡ c.loop-after.after = omega arith in
    record {
      ordered = omega (arith, c.loop-after.invariant.ordered);
      in_bounds = omega arith;
      last = λ _. rw e (omega (arith, end));
      held = omega (arith, more, len, c.loop-after.invariant.held);
    }
