use Rattle.std.proofs.Common.{◌≡◌, ℕ, ◌+◌, ◌≤◌, ◌++◌, length, take, drop, append_assoc, length-append, sym, ap, ◌∙◌, arith}
use Rattle.std.proofs.lemmas.List.{take_at, length-take-le, length-drop}
use Rattle.qs_ranges.specs.Runs.{Runs}
use Rattle.qs_ranges.specs.Blocks.{all_runs, block_at}
use Rattle.qs_ranges.proofs.Places.{all_more, length_more, length_within, read_block}
use Rattle.qs_ranges.proofs.changes.copy_runs.Goals as goal

-- runs that are copied behind those which stand there
taken : (old block rest : Runs) (at len : ℕ) → at ≤ length old → len ≡ length block → take (at + len) (take at old ++ (block ++ rest)) ≡ take at old ++ block
taken old block rest at len le is =
    ap (take (at + len)) (sym (append_assoc (take at old) block rest))
    ∙ take_at (take at old ++ block) rest (at + len) (omega (arith, length-append (take at old) block, length-take-le at old le))

kept : (old block : Runs) (at : ℕ) → at + length block ≤ length old → length (take at old ++ (block ++ drop (at + length block) old)) ≡ length old
kept old block at le = omega (arith, length-append (take at old) (block ++ drop (at + length block) old), length-append block (drop (at + length block) old), length-take-le at old (omega arith), length-drop (at + length block) old)

pub copy_block-requires : goal.copy_block-requires
copy_block-requires c =
    let bs = c.args.blocks.now in
    let is = read_block bs c.loop-block.block-index c.block-item.result c.loop-block-test.true c.block-item.is in
    let len : length c.block-item.result ≡ length (block_at bs c.loop-block.block-index) = ap length is in
    omega (arith, len, c.loop-block.invariant.0, c.loop-block.invariant.2, c.requires, length_within bs c.loop-block.block-index c.loop-block-test.true)

pub loop-block-preserved : goal.loop-block-preserved
loop-block-preserved c =
    let bs = c.args.blocks.now in
    let k = c.loop-block.block-index in
    let old = c.loop-block.into in
    let item = c.block-item.result in
    let count = c.loop-block.count in
    let inv = c.loop-block.invariant in
    let is = read_block bs k item c.loop-block-test.true c.block-item.is in
    let len : length item ≡ length (block_at bs k) = ap length is in
    let room : count + length item ≤ length old = omega (arith, len, inv.0, inv.2, c.requires, length_within bs k c.loop-block-test.true) in
    let more : count + c.len-count.result ≡ length (all_runs (take (k + 1) bs)) = omega (arith, c.len-count.ensures.value, len, inv.0, length_more bs k c.loop-block-test.true) in
    let runs : take (count + c.len-count.result) c.copy_block.new.into ≡ all_runs (take (k + 1) bs) =
    ap (take (count + c.len-count.result)) c.copy_block.ensures
    ∙ taken old item (drop (count + length item) old) count c.len-count.result (omega (arith, room)) c.len-count.ensures.value
    ∙ ap (λ l. l ++ item) inv.1
    ∙ ap (λ l. all_runs (take k bs) ++ l) is
    ∙ sym (all_more bs k c.loop-block-test.true) in
    let same : length c.copy_block.new.into ≡ length c.args.into.now = ap length c.copy_block.ensures ∙ kept old item count room ∙ inv.2 in
    (more, runs, same)
