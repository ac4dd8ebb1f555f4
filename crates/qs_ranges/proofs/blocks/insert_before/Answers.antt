use Rattle.std.proofs.Common.{◌≡◌, ◌-◌, ◌<◌, length, refl, ap, ◌∙◌, arith}
use Rattle.std.specs.List.{insert}
use Rattle.qs_ranges.specs.Blocks.{all_runs, block_at, place}
use Rattle.qs_ranges.proofs.Places.{before_next, inserted_if_ok, own_block, read_block}
use Rattle.qs_ranges.proofs.blocks.insert_before.Goals as goal

pub returns-then-len-lt-MOST_RUNS-clause-ok : goal.returns-then-len-lt-MOST_RUNS-clause-ok
returns-then-len-lt-MOST_RUNS-clause-ok c =
    let bs = c.args.blocks.now.items in
    let b = c.args.block - 1 in
    let len = c.len-len.result in
    let within : b < length bs = omega arith in
    let counted : len ≡ length (block_at bs b) = c.len-len.ensures.value ∙ ap length (read_block bs b c.index.result.now within c.index.ensures) in
    inserted_if_ok c.insert.result bs bs b len (place bs c.args.block 0) c.args.run c.index_mut.result.now c.insert.new.self refl (before_next bs b c.args.block len (omega arith) counted) within (omega (arith, counted)) c.index_mut.ensures.value c.insert.ensures.ok

pub returns-clause-ok : goal.returns-clause-ok
returns-clause-ok c =
    let bs = c.args.blocks.now.items in
    ap all_runs (c.in_ok-insert.ensures.items ∙ ap (insert bs c.args.block) c.in_ok-own.ensures) ∙ own_block bs c.args.block c.args.run
