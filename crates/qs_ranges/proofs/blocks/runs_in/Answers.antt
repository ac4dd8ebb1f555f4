use Rattle.std.proofs.Common.{◌≡◌, ◌<◌, length, take, ap, ◌∙◌, arith}
use Rattle.qs_ranges.specs.Blocks.{all_runs, block_at}
use Rattle.qs_ranges.proofs.Places.{length_more, length_within, read_block}
use Rattle.qs_ranges.proofs.blocks.runs_in.Goals as goal

pub loop-at-init : goal.loop-at-init
loop-at-init c =
    let bs = c.args.blocks.now in
    let b = c.args.span.block in
    let within : b < length bs = omega (arith, c.requires.found.blocks, c.requires.found.in_bounds) in
    let len : c.len.result ≡ length (block_at bs b) = c.len.ensures.value ∙ ap length (read_block bs b c.index-blocks-span.result within c.index-blocks-span.is) in
    omega (arith, len, c.requires.found.from_in, length_more bs b within)

counted : (c : goal.After-len-count) → c.len-count.result ≡ length (block_at c.args.blocks.now c.loop-at.at)
counted c =
    let bs = c.args.blocks.now in
    let within : c.loop-at.at < length bs = omega (arith, c.loop-at-test.true, c.requires.found.in_bounds) in
    c.len-count.ensures.value ∙ ap length (read_block bs c.loop-at.at c.index-blocks-at.result within c.index-blocks-at.is)

pub overflow_add-count : goal.overflow_add-count
overflow_add-count c =
    let within : c.loop-at.at < length c.args.blocks.now = omega (arith, c.loop-at-test.true, c.requires.found.in_bounds) in
    omega (arith, counted c, c.loop-at.invariant, c.requires.few, length_within c.args.blocks.now c.loop-at.at within)

pub loop-at-preserved : goal.loop-at-preserved
loop-at-preserved c =
    let within : c.loop-at.at < length c.args.blocks.now = omega (arith, c.loop-at-test.true, c.requires.found.in_bounds) in
    omega (arith, counted c, c.loop-at.invariant, length_more c.args.blocks.now c.loop-at.at within)

pub overflow_add-result : goal.overflow_add-result
overflow_add-result c =
    let bs = c.args.blocks.now in
    let last = c.args.span.last in
    let end : c.loop-at.at ≡ last = grind (arith, c.loop-at-test.false, c.loop-at.auto.at, c.requires.found.blocks, c.if-span.false) in
    let same : length (all_runs (take c.loop-at.at bs)) ≡ length (all_runs (take last bs)) = ap (λ n. length (all_runs (take n bs))) end in
    omega (arith, c.loop-at.invariant, same, c.requires.few, length_within bs last c.requires.found.in_bounds, c.requires.found.to_in)
