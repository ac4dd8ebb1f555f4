use Rattle.std.proofs.Common.{◌≡◌, ◌<◌, ◌≤◌, length, subst, arith}
use Rattle.qs_ranges.specs.Runs.{start_at}
use Rattle.qs_ranges.specs.Blocks.{all_runs, block_at, place}
use Rattle.qs_ranges.proofs.Places.{read_block, at_place}
use Rattle.qs_ranges.proofs.Edits.{span_empty, past_all, span_found}
use Rattle.qs_ranges.proofs.blocks.span_of.Goals as goal

pub returns-then-block-blocks-clause-span : goal.returns-then-block-blocks-clause-span
returns-then-block-blocks-clause-span c =
    let bs = c.args.blocks.now in
    let at = c.first_from-block.result in
    let all : place bs at.0 at.1 ≡ length (all_runs bs) = past_all bs at.0 at.1 c.if-block-blocks.true (c.first_from-block.ensures.end c.if-block-blocks.true) in
    span_empty (all_runs bs) c.args.low c.args.high (place bs at.0 at.1) c.requires.apart c.requires.ordered c.first_from-block.ensures.place (λ lt. absurd (omega arith))

pub returns-then-high-start-clause-span : goal.returns-then-high-start-clause-span
returns-then-high-start-clause-span c =
    let bs = c.args.blocks.now in
    let at = c.first_from-block.result in
    let within : at.0 < length bs = omega (arith, c.first_from-block.ensures.block) in
    let x = c.index-blocks-block.result in
    let here : x ≡ block_at bs at.0 = read_block bs at.0 x within c.index-blocks-block.is in
    let starts : c.args.high ≤ start_at x at.1 = subst (λ r. c.args.high ≤ r.0) c.run-start.ensures c.if-high-start.true in
    span_empty (all_runs bs) c.args.low c.args.high (place bs at.0 at.1) c.requires.apart c.requires.ordered c.first_from-block.ensures.place
    (λ _. at_place (λ r. c.args.high ≤ r.0) bs at.0 at.1 (c.first_from-block.ensures.at within) (subst (λ l. c.args.high ≤ start_at l at.1) here starts))

pub returns-clause-span : goal.returns-clause-span
returns-clause-span c =
    let at = c.first_from-block.result in
    let to = c.behind-last.result in
    let end = c.behind-last.ensures in
    span_found c.args.blocks.now c.args.low c.args.high at.0 at.1 to.0 to.1 c.requires.apart c.requires.ordered c.first_from-block.ensures.place end.found end.before end.behind end.next end.some
