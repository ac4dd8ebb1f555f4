use Rattle.std.proofs.Common.{◌≡◌, suc, ◌+◌, ◌<◌, length, ap, sym, ◌∙◌, arith}
use Rattle.qs_ranges.specs.Blocks.{all_runs, block_at, place}
use Rattle.qs_ranges.proofs.Edits.{slice_get_none, past_all, read_at}
use Rattle.qs_ranges.proofs.Places.{place_next, read_block}
use Rattle.qs_ranges.proofs.blocks.run_behind.Goals as goal

pub returns-then-at-len : goal.returns-then-at-len
returns-then-at-len c =
    let bs = c.args.blocks.now in
    let b = c.args.block in
    let counted : c.len.result ≡ length (block_at bs b) = c.len.ensures.value ∙ ap length (read_block bs b c.index-blocks-block.result c.requires.block c.index-blocks-block.is) in
    let x = c.index-blocks-block-then-at-len.result in
    read_at bs b (c.args.at + 1) (place bs b c.args.at + 1) x c.run.result (omega (arith, counted)) (read_block bs b x c.requires.block c.index-blocks-block-then-at-len.is) c.run.ensures (omega arith)

pub returns-then-block-blocks : goal.returns-then-block-blocks
returns-then-block-blocks c =
    let bs = c.args.blocks.now in
    let b = c.args.block in
    let counted : c.len.result ≡ length (block_at bs b) = c.len.ensures.value ∙ ap length (read_block bs b c.index-blocks-block.result c.requires.block c.index-blocks-block.is) in
    let next : suc b ≡ length bs = omega (arith, c.if-block-blocks.true, c.requires.block) in
    let all : place bs b (length (block_at bs b)) ≡ length (all_runs bs) = place_next bs b ∙ past_all bs (suc b) 0 next (omega arith) in
    sym (slice_get_none (all_runs bs) (place bs b c.args.at + 1) (omega (arith, counted, all, c.if-at-len.false, c.requires.at)))

pub returns : goal.returns
returns c =
    let bs = c.args.blocks.now in
    let b = c.args.block in
    let counted : c.len.result ≡ length (block_at bs b) = c.len.ensures.value ∙ ap length (read_block bs b c.index-blocks-block.result c.requires.block c.index-blocks-block.is) in
    let next : suc b ≡ b + 1 = omega arith in
    let behind : place bs b (length (block_at bs b)) ≡ place bs (b + 1) 0 = place_next bs b ∙ ap (λ n. place bs n 0) next in
    let x = c.index-blocks-block-2.result in
    let here : x ≡ block_at bs (b + 1) = read_block bs (b + 1) x (omega (arith, c.if-block-blocks.false, c.requires.block)) c.index-blocks-block-2.is in
    let some : 0 < length (block_at bs (b + 1)) = omega (arith, c.first.ensures.some, ap length here) in
    read_at bs (b + 1) 0 (place bs b c.args.at + 1) x c.first.result some here c.first.ensures.value (omega (arith, counted, behind, c.if-at-len.false, c.requires.at))
