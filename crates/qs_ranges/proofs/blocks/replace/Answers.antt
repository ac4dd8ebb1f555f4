use Rattle.std.proofs.Common.{◌+◌, [], ◌∷◌, ap, ◌∙◌, arith}
use Rattle.qs_ranges.specs.Blocks.{all_runs}
use Rattle.qs_ranges.proofs.Places.{edited, spliced, block_behind_same}
use Rattle.qs_ranges.proofs.blocks.replace.Goals as goal

pub returns-then-span : goal.returns-then-span
returns-then-span c =
    let s = c.args.span in
    edited c.args.blocks.now.items s.block s.last s.from s.to (c.args.run ∷ []) c.index_mut.result.now c.replace.new.self (omega (arith, c.requires.blocks, c.requires.in_bounds)) c.if-span.true (omega (arith, c.requires.from_in)) c.requires.to_in c.index_mut.ensures.value c.replace.ensures

pub cut_front-last-requires-clause-to : goal.cut_front-last-requires-clause-to
cut_front-last-requires-clause-to c =
    let s = c.args.span in
    rw (block_behind_same c.end_with.new.blocks.items c.args.blocks.now.items (s.block + 1) s.last (omega (arith, c.requires.blocks)) c.end_with.ensures.behind) c.requires.to_in

pub returns : goal.returns
returns c =
    let s = c.args.span in
    ap all_runs c.drop_blocks.ensures
    ∙ spliced c.args.blocks.now.items c.end_with.new.blocks.items c.cut_front-last.new.blocks.items s.block s.last (s.block + 1) c.cut_front-last.result s.from s.to (c.args.run ∷ []) [] (omega (arith, c.requires.blocks)) c.requires.in_bounds (omega (arith, c.requires.from_in)) c.requires.to_in (omega arith) c.end_with.ensures.before c.end_with.ensures.behind c.cut_front-last.ensures.before c.cut_front-last.ensures.behind
