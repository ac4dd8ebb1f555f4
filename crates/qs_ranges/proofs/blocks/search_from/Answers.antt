use Rattle.std.proofs.Common.{◌≡◌, ◌-◌, ◌<◌, ◌≤◌, length, subst, arith}
use Rattle.qs_ranges.specs.Runs.{end_at}
use Rattle.qs_ranges.specs.Blocks.{block_at}
use Rattle.qs_ranges.proofs.Places.{read_block}
use Rattle.qs_ranges.proofs.Edits.{first_end, first_inside, not_past}
use Rattle.qs_ranges.proofs.blocks.search_from.Goals as goal

pub returns-then-block-blocks-clause-place : goal.returns-then-block-blocks-clause-place
returns-then-block-blocks-clause-place c =
    first_end c.args.blocks.now c.args.low c.block_from-block.result c.if-block-blocks.true (λ some. (c.block_from-block.ensures.some some, c.block_from-block.ensures.before some))

-- the block that was read
here : (c : goal.After-end_from) → c.index-blocks-block.result ≡ block_at c.args.blocks.now c.block_from-block.result
here c = read_block c.args.blocks.now c.block_from-block.result c.index-blocks-block.result (omega (arith, c.block_from-block.ensures.within)) c.index-blocks-block.is

before : (c : goal.After-end_from) → 0 < c.end_from.result → end_at (block_at c.args.blocks.now c.block_from-block.result) (c.end_from.result - 1) < c.args.low
before c some = subst (λ l. end_at l (c.end_from.result - 1) < c.args.low) (here c) (c.end_from.ensures.before some)

inside : (c : goal.After-end_from) → c.end_from.result < length (block_at c.args.blocks.now c.block_from-block.result)
inside c =
    let bs = c.args.blocks.now in
    let b = c.block_from-block.result in
    not_past (block_at bs b) c.args.low c.end_from.result (subst (λ l. c.end_from.result ≤ length l) (here c) c.end_from.ensures.within) (subst (λ l. 0 < length l) (here c) c.end_from.ensures.some) (before c) (c.block_from-block.ensures.behind (omega (arith, c.block_from-block.ensures.within)))

pub returns-clause-place : goal.returns-clause-place
returns-clause-place c =
    let bs = c.args.blocks.now in
    let b = c.block_from-block.result in
    let behind : c.args.low ≤ end_at (block_at bs b) c.end_from.result = subst (λ l. c.args.low ≤ end_at l c.end_from.result) (here c) (c.end_from.ensures.behind (rw (here c) (inside c))) in
    first_inside bs c.args.low b c.end_from.result (λ some. (c.block_from-block.ensures.some some, c.block_from-block.ensures.before some)) (inside c) (before c) behind

pub returns-clause-at : goal.returns-clause-at
returns-clause-at c lt = inside c
