use Rattle.std.proofs.Common.{◌≡◌, ◌-◌, ◌<◌, ◌≤◌, length, subst, refl, ap, ◌∙◌, arith}
use Rattle.qs_ranges.specs.Runs.{start_at, end_at}
use Rattle.qs_ranges.specs.Blocks.{block_at}
use Rattle.qs_ranges.proofs.Places.{read_block}
use Rattle.qs_ranges.proofs.Edits.{first_end, first_last}
use Rattle.qs_ranges.proofs.blocks.first_from.Goals as goal

pub returns-then-end-low-clause-place : goal.returns-then-end-low-clause-place
returns-then-end-low-clause-place c =
    let bs = c.args.blocks.now in
    let x = c.index-blocks-count.result in
    let here : x ≡ block_at bs (length bs - 1) = read_block bs (length bs - 1) x (omega arith) c.index-blocks-count.is in
    let ends : end_at x (length x - 1) < c.args.low = subst (λ r. r.1 < c.args.low) c.last-start.ensures.value c.if-end-low.true in
    first_end bs c.args.low (length bs) refl (λ some. (subst (λ l. 0 < length l) here c.last-start.ensures.some, subst (λ l. end_at l (length l - 1) < c.args.low) here ends))

pub returns-then-start-low-clause-place : goal.returns-then-start-low-clause-place
returns-then-start-low-clause-place c =
    let bs = c.args.blocks.now in
    let b = length bs - 1 in
    let low = c.args.low in
    let x = c.index-blocks-count.result in
    let y = c.index-blocks-count-then-start-low.result in
    let here : x ≡ block_at bs b = read_block bs b x (omega arith) c.index-blocks-count.is in
    let again : y ≡ block_at bs b = read_block bs b y (omega arith) c.index-blocks-count-then-start-low.is in
    let starts : start_at x (length x - 1) < low = subst (λ r. r.0 < low) c.last-start.ensures.value c.if-start-low.true in
    let ends : low ≤ end_at x (length x - 1) = subst (λ r. low ≤ r.1) c.last-start.ensures.value c.if-end-low.false in
    let at : c.len.result ≡ length (block_at bs b) = c.len.ensures.value ∙ ap length again in
    rw at (first_last bs low b c.requires (subst (λ l. 0 < length l) here c.last-start.ensures.some) (subst (λ l. start_at l (length l - 1) < low) here starts) (subst (λ l. low ≤ end_at l (length l - 1)) here ends))
