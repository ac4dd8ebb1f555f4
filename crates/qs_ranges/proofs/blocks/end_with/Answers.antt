use Rattle.std.proofs.Common.{◌++◌, length, take, ap, ◌∙◌}
use Rattle.qs_ranges.specs.Blocks.{all_runs, block_at}
use Rattle.qs_ranges.proofs.Places.{read_block, up_to_changed, ends_with}
use Rattle.qs_ranges.proofs.blocks.end_with.Goals as goal

pub returns-clause-before : goal.returns-clause-before
returns-clause-before c =
    let bs = c.args.blocks.now.items in
    let counted = read_block bs c.args.block c.index.result.now c.requires.block c.index.ensures in
    let changed = read_block bs c.args.block c.index_mut.result.now c.requires.block c.index_mut.ensures.value in
    up_to_changed bs c.args.block c.replace.new.self c.requires.block
    ∙ ap (λ l. all_runs (take c.args.block bs) ++ l) (c.replace.ensures ∙ ends_with c.index_mut.result.now (block_at bs c.args.block) c.args.from c.len-len.result c.args.run changed (c.len-len.ensures.value ∙ ap length counted))
