use Rattle.std.proofs.Common.{◌≡◌, ◌+◌, [], ◌∷◌, ap, ◌∙◌, arith}
use Rattle.qs_ranges.specs.Blocks.{all_runs}
use Rattle.qs_ranges.proofs.Places.{edited, spliced, block_behind_same}
use Rattle.qs_ranges.proofs.blocks.split.Goals as goal

pub start_with-requires-clause-to : goal.start_with-requires-clause-to
start_with-requires-clause-to c =
    let s = c.args.span in
    rw (block_behind_same c.end_with.new.blocks.items c.args.blocks.now.items (s.block + 1) s.last (omega (arith, c.requires.blocks)) c.end_with.ensures.behind) c.requires.to_in

pub returns-then-span-clause-ok : goal.returns-then-span-clause-ok
returns-then-span-clause-ok c =
    let s = c.args.span in
    ap all_runs c.drop_blocks.ensures
    ∙ spliced c.args.blocks.now.items c.end_with.new.blocks.items c.start_with.new.blocks.items s.block s.last (s.block + 1) s.last s.from s.to (c.args.left ∷ []) (c.args.right ∷ []) (omega (arith, c.requires.blocks)) c.requires.in_bounds (omega (arith, c.requires.from_in)) c.requires.to_in (omega arith) c.end_with.ensures.before c.end_with.ensures.behind c.start_with.ensures.before c.start_with.ensures.behind

pub returns-then-span-2-clause-ok : goal.returns-then-span-2-clause-ok
returns-then-span-2-clause-ok c =
    let s = c.args.span in
    let same : s.block ≡ s.last = omega (arith, c.requires.blocks) in
    edited c.args.blocks.now.items s.block s.last s.from s.to (c.args.left ∷ c.args.right ∷ []) c.index_mut.result.now c.replace_by_two.new.self (omega (arith, c.requires.blocks, c.requires.in_bounds)) same (omega (arith, c.requires.from_in)) c.requires.to_in c.index_mut.ensures.value c.replace_by_two.ensures
