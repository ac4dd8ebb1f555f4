use Rattle.std.proofs.Common.{◌≡◌, ◌+◌, ◌-◌, ◌^◌, min, max, ap, ◌∙◌, arith}
use Rattle.qs_ranges.specs.Runs.{IsSpan, start_at, end_at}
use Rattle.qs_ranges.specs.Blocks.{all_runs, place, IsFound}
use Rattle.qs_ranges.proofs.Edits.{is_false, is_true, read_ends, many_value, count_fits, put_nowhere, put_over, inserted_apart}
use Rattle.qs_ranges.proofs.changes.insert_anywhere.Goals as goal

pub returns-then-not-span-clause-ok : goal.returns-then-not-span-clause-ok
returns-then-not-span-clause-ok c =
    let bs = c.args.blocks.now.items in
    let s = c.span_of-span.result in
    let span : IsSpan (all_runs bs) c.args.lo (c.args.hi + 1) (place bs s.block s.from) (place bs s.last s.to) = rw c.deref.ensures.value at c.span_of-span.ensures.span in
    let none : place bs s.block s.from ≡ place bs s.last s.to = rw c.deref.ensures.value at c.span_of-span.ensures.none (is_false s.some c.if-not-span.true) in
    rw (many_value c.insert_at.new.blocks.items (c.count_few-count.result + 1), c.in_ok-insert_at.ensures.ok) (inserted_apart (all_runs bs) c.args.lo c.args.hi (2 ^ 62) (place bs s.block s.from) (place bs s.last s.to) c.requires.apart c.requires.bound c.requires.some c.requires.within span none)

pub returns-in_err-insert_at-clause-touches_none : goal.returns-in_err-insert_at-clause-touches_none
returns-in_err-insert_at-clause-touches_none c =
    let bs = c.args.blocks.now.items in
    let s = c.span_of-span.result in
    let span : IsSpan (all_runs bs) c.args.lo (c.args.hi + 1) (place bs s.block s.from) (place bs s.last s.to) = rw c.deref.ensures.value at c.span_of-span.ensures.span in
    let none : place bs s.block s.from ≡ place bs s.last s.to = rw c.deref.ensures.value at c.span_of-span.ensures.none (is_false s.some c.if-not-span.true) in
    put_nowhere (all_runs bs) c.insert_at.new.blocks.items c.args.lo c.args.hi (2 ^ 62) (place bs s.block s.from) (place bs s.last s.to) c.requires.apart c.requires.bound c.requires.some c.from_residual.result c.requires.within span none

pub overflow_add-few : goal.overflow_add-few
overflow_add-few c = omega (arith, c.count_few-count.ensures, c.requires.counted, count_fits (all_runs c.args.blocks.now.items) c.requires.apart c.requires.bound)

pub runs_in-gone-requires-clause-few : goal.runs_in-gone-requires-clause-few
runs_in-gone-requires-clause-few c = rw c.deref-2.ensures.value (omega (arith, count_fits (all_runs c.args.blocks.now.items) c.requires.apart c.requires.bound))

pub overflow_add-count : goal.overflow_add-count
overflow_add-count c = omega (arith, c.count_few-count.ensures, c.requires.counted, count_fits (all_runs c.args.blocks.now.items) c.requires.apart c.requires.bound)

pub returns-clause-ok : goal.returns-clause-ok
returns-clause-ok c =
    let bs = c.args.blocks.now.items in
    let s = c.span_of-span.result in
    let span : IsSpan (all_runs bs) c.args.lo (c.args.hi + 1) (place bs s.block s.from) (place bs s.last s.to) = rw c.deref.ensures.value at c.span_of-span.ensures.span in
    let found : IsFound bs s.block s.from s.last s.to = rw c.deref.ensures.value at c.span_of-span.ensures.found (is_true s.some c.if-not-span.false) in
    let ends = read_ends bs s.block s.from s.last s.to c.index.result.now c.index-2.result.now c.run-start.result c.run-end.result found c.index.ensures c.run-start.ensures c.index-2.ensures c.run-end.ensures in
    let start : c.min.result ≡ min c.args.lo (start_at (all_runs bs) (place bs s.block s.from)) = c.min.ensures ∙ ap (min c.args.lo) ends.start in
    let end : c.max.result ≡ max c.args.hi (end_at (all_runs bs) (place bs s.last s.to - 1)) = c.max.ensures ∙ ap (max c.args.hi) ends.end in
    rw c.settle.ensures.runs (put_over (all_runs bs) c.replace.new.blocks.items c.args.lo c.args.hi (2 ^ 62) (place bs s.block s.from) (place bs s.last s.to) c.requires.apart c.requires.bound c.requires.some c.min.result c.max.result c.requires.within span ends.some start end c.replace.ensures)
