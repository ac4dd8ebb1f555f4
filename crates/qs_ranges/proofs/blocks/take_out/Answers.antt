use Rattle.std.proofs.Common.{◌≡◌, ◌+◌, ◌<◌, ◌++◌, [], length, take, drop, ap, sym, ◌∙◌, arith}
use Rattle.std.proofs.lemmas.List.{append-nil}
use Rattle.qs_ranges.specs.Blocks.{all_runs, block_at, place}
use Rattle.qs_ranges.proofs.Places.{read_block, edited, spliced, block_behind_same, whole_out}
use Rattle.qs_ranges.proofs.blocks.take_out.Goals as goal

pub cut_front-last-requires-clause-to : goal.cut_front-last-requires-clause-to
cut_front-last-requires-clause-to c =
    let s = c.args.span in
    rw (block_behind_same c.cut_back-first.new.blocks.items c.args.blocks.now.items (s.block + 1) s.last (omega arith) c.cut_back-first.ensures.behind) c.requires.to_in

pub returns-then-span : goal.returns-then-span
returns-then-span c =
    let s = c.args.span in
    let bs = c.args.blocks.now.items in
    let before = c.cut_back-first.ensures.before ∙ ap (λ l. all_runs (take s.block bs) ++ l) (sym (append-nil (take s.from (block_at bs s.block)))) in
    ap all_runs c.drop_blocks.ensures
    ∙ spliced bs c.cut_back-first.new.blocks.items c.cut_front-last.new.blocks.items s.block s.last c.cut_back-first.result c.cut_front-last.result s.from s.to [] [] (omega arith) c.requires.in_bounds (omega (arith, c.requires.from_in)) c.requires.to_in c.cut_back-first.ensures.result before c.cut_back-first.ensures.behind c.cut_front-last.ensures.before c.cut_front-last.ensures.behind

pub returns-then-span-len : goal.returns-then-span-len
returns-then-span-len c =
    let s = c.args.span in
    let bs = c.args.blocks.now.items in
    let within : s.block < length bs = omega (arith, c.requires.blocks, c.requires.in_bounds) in
    let same : s.block ≡ s.last = omega (arith, c.requires.blocks) in
    let whole : s.to ≡ length (block_at bs s.block) = c.if-span-len.true ∙ c.len.ensures.value ∙ ap length (read_block bs s.block c.index.result.now within c.index.ensures) in
    ap all_runs c.drop_blocks-then-span-len.ensures
    ∙ whole_out bs s.block s.to whole
    ∙ ap (λ n. take (place bs s.block n) (all_runs bs) ++ drop (place bs s.block s.to) (all_runs bs)) (sym c.if-span-eq0.true)
    ∙ ap (λ n. take (place bs s.block s.from) (all_runs bs) ++ drop (place bs n s.to) (all_runs bs)) same

pub returns : goal.returns
returns c =
    let s = c.args.span in
    let same : s.block ≡ s.last = omega (arith, c.requires.blocks) in
    edited c.args.blocks.now.items s.block s.last s.from s.to [] c.index_mut.result.now c.take_out.new.self (omega (arith, c.requires.blocks, c.requires.in_bounds)) same (omega (arith, c.requires.from_in)) c.requires.to_in c.index_mut.ensures.value c.take_out.ensures
