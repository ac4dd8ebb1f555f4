use Rattle.std.proofs.Common.{◌≡◌, ◌+◌, ◌-◌, ◌/◌, ◌≤◌, length, drop, ap, ◌∙◌, arith}
use Rattle.qs_ranges.specs.Blocks.{all_runs, block_at, place}
use Rattle.qs_ranges.proofs.Places.{read_block, room, parted, parted_place}
use Rattle.qs_ranges.proofs.blocks.make_room.Goals as goal

pub returns-then-at-half-clause-same : goal.returns-then-at-half-clause-same
returns-then-at-half-clause-same c =
    let bs = c.args.blocks.now.items in
    let half = c.len-len.result / 2 in
    ap all_runs (room bs c.insert.new.self.items c.args.block half c.len-len.result c.in_ok-upper.upper c.index_mut.result.now c.index-2.result.now c.index.result.now c.take_out.new.self c.requires.block c.in_ok-insert.ensures.items c.in_ok-upper.ensures c.index-2.ensures c.index.ensures c.len-len.ensures.value c.index_mut.ensures.value c.take_out.ensures)
    ∙ parted bs c.args.block half c.requires.block

pub returns-clause-same : goal.returns-clause-same
returns-clause-same c =
    let bs = c.args.blocks.now.items in
    let half = c.len-len.result / 2 in
    ap all_runs (room bs c.insert.new.self.items c.args.block half c.len-len.result c.in_ok-upper.upper c.index_mut.result.now c.index-2.result.now c.index.result.now c.take_out.new.self c.requires.block c.in_ok-insert.ensures.items c.in_ok-upper.ensures c.index-2.ensures c.index.ensures c.len-len.ensures.value c.index_mut.ensures.value c.take_out.ensures)
    ∙ parted bs c.args.block half c.requires.block

pub returns-clause-place : goal.returns-clause-place
returns-clause-place c =
    let bs = c.args.blocks.now.items in
    let half = c.len-len.result / 2 in
    let counted : c.len-len.result ≡ length (block_at bs c.args.block) = c.len-len.ensures.value ∙ ap length (read_block bs c.args.block c.index.result.now c.requires.block c.index.ensures) in
    let within : half ≤ length (block_at bs c.args.block) = omega arith in
    ap (λ zs. place zs (c.args.block + 1) (c.args.at - half)) (room bs c.insert.new.self.items c.args.block half c.len-len.result c.in_ok-upper.upper c.index_mut.result.now c.index-2.result.now c.index.result.now c.take_out.new.self c.requires.block c.in_ok-insert.ensures.items c.in_ok-upper.ensures c.index-2.ensures c.index.ensures c.len-len.ensures.value c.index_mut.ensures.value c.take_out.ensures)
    ∙ parted_place bs c.args.block half c.args.at (drop half (block_at bs c.args.block)) c.requires.block within c.if-at-half.false
