use Rattle.std.proofs.Common.{◌≡◌, ◌+◌, ◌-◌, ◌^◌, ◌<◌, get_or, slice_set, [], ◌∷◌, length, refl, ap, ◌∙◌, arith}
use Rattle.qs_ranges.specs.Blocks.{block_at}
use Rattle.qs_ranges.proofs.Places.{edited, read_block}
use Rattle.qs_ranges.proofs.Edits.{as_many, lengthened}
use Rattle.qs_ranges.proofs.changes.lengthen_last.Goals as goal

pub returns-clause-longer : goal.returns-clause-longer
returns-clause-longer c = λ _.
    let bs = c.args.blocks.now.items in
    let b = c.len-count.result - 1 in
    let i = c.len-at.result - 1 in
    let within : b < length bs = omega (arith, c.len-count.ensures) in
    let x = read_block bs b c.index.result.now within c.index.ensures in
    let y = read_block bs b c.index-2.result.now within c.index-2.ensures in
    let len : c.len-at.result ≡ length (block_at bs b) = c.len-at.ensures.value ∙ ap length x in
    let edit = edited bs b b i (i + 1) ((c.run-start.result.0, c.max.result) ∷ []) c.index_mut.result.now c.replace.new.self within refl (omega arith) (omega arith) c.index_mut.ensures.value c.replace.ensures in
    lengthened bs (slice_set bs b c.replace.new.self) b i c.args.lo c.args.hi (2 ^ 62) c.run-start.result c.max.result c.requires.apart c.requires.bound c.requires.some c.requires.within (omega (arith, c.len-count.ensures)) (omega (arith, c.len-at.ensures.some))
    (c.run-start.ensures ∙ ap (λ l. get_or l i (0, 0)) y) (omega (arith, c.if-lo-start.false)) (omega (arith, c.if-end-lo.false)) c.max.ensures edit

pub returns-clause-count : goal.returns-clause-count
returns-clause-count c =
    let bs = c.args.blocks.now.items in
    let b = c.len-count.result - 1 in
    let i = c.len-at.result - 1 in
    let within : b < length bs = omega (arith, c.len-count.ensures) in
    let x = read_block bs b c.index.result.now within c.index.ensures in
    let len : c.len-at.result ≡ length (block_at bs b) = c.len-at.ensures.value ∙ ap length x in
    let edit = edited bs b b i (i + 1) ((c.run-start.result.0, c.max.result) ∷ []) c.index_mut.result.now c.replace.new.self within refl (omega arith) (omega arith) c.index_mut.ensures.value c.replace.ensures in
    as_many bs (slice_set bs b c.replace.new.self) b i (c.run-start.result.0, c.max.result) (omega arith) edit
