use Rattle.std.proofs.Common.{◌≡◌, ◌+◌, ◌<◌, length, get_or, ap, sym, ◌∙◌, refl, arith}
use Rattle.qs_ranges.specs.Runs.{end_at}
use Rattle.qs_ranges.specs.Blocks.{all_runs, block_at, place}
use Rattle.qs_ranges.proofs.Edits.{slice_get_at_first, slice_get_none, past_all, read_at, next_first}
use Rattle.qs_ranges.proofs.Places.{place_within, run_at_place, read_block}
use Rattle.qs_ranges.proofs.blocks.two_above.Goals as goal

pub returns-then-block-blocks-clause-first : goal.returns-then-block-blocks-clause-first
returns-then-block-blocks-clause-first c =
    let bs = c.args.blocks.now in
    let at = c.first_from-block.result in
    let all : place bs at.0 at.1 ≡ length (all_runs bs) = past_all bs at.0 at.1 c.if-block-blocks.true (c.first_from-block.ensures.end c.if-block-blocks.true) in
    sym (slice_get_none (all_runs bs) (place bs at.0 at.1) (omega (arith, all))) ∙ slice_get_at_first 0 (all_runs bs) c.args.n (place bs at.0 at.1) c.requires.apart c.first_from-block.ensures.place

pub returns-clause-first : goal.returns-clause-first
returns-clause-first c =
    let bs = c.args.blocks.now in
    let at = c.first_from-block.result in
    let x = c.index-blocks-block.result in
    let lt : at.0 < length bs = omega (arith, c.first_from-block.ensures.block, c.if-block-blocks.false) in
    read_at bs at.0 at.1 (place bs at.0 at.1) x c.run.result (c.first_from-block.ensures.at lt) (read_block bs at.0 x lt c.index-blocks-block.is) c.run.ensures refl
    ∙ slice_get_at_first 0 (all_runs bs) c.args.n (place bs at.0 at.1) c.requires.apart c.first_from-block.ensures.place

pub returns-clause-next : goal.returns-clause-next
returns-clause-next c =
    let bs = c.args.blocks.now in
    let at = c.first_from-block.result in
    let p = place bs at.0 at.1 in
    let x = c.index-blocks-block.result in
    let lt : at.0 < length bs = omega (arith, c.first_from-block.ensures.block, c.if-block-blocks.false) in
    let inside : at.1 < length (block_at bs at.0) = c.first_from-block.ensures.at lt in
    let within : p < length (all_runs bs) = omega (arith, place_within bs at.0 (at.1 + 1) (omega (arith, inside))) in
    let ends : c.run.result.1 ≡ end_at (all_runs bs) p = ap (λ r. r.1) (c.run.ensures ∙ ap (λ l. get_or l at.1 (0, 0)) (read_block bs at.0 x lt c.index-blocks-block.is) ∙ sym (run_at_place bs at.0 at.1 (0, 0) inside)) in
    c.run_behind.ensures ∙ slice_get_at_first 0 (all_runs bs) c.run.result.1 (p + 1) c.requires.apart (next_first (all_runs bs) p c.run.result c.requires.apart within ends)
