use Rattle.std.proofs.Common.{Result, Ok, Err, OnErr, ◌≡◌, ◌+◌, ◌^◌, refl, arith}
use Rattle.qs_ranges.specs.Runs.{IsSpan}
use Rattle.qs_ranges.specs.Blocks.{all_runs, place, IsFound}
use Rattle.qs_ranges.proofs.Edits.{is_false, is_true, read_ends, count_fits, kept_all, cut_all, cut_end, cut_start, removed_inside, contains_around}
use Rattle.qs_ranges.proofs.changes.cut_blocks.Goals as goal

on_err : {T E P : Type 0} (r : Result T E) → P → OnErr r P
on_err (Ok v) p = tt
on_err (Err e) p = p

pub returns-then-not-span-clause-ok : goal.returns-then-not-span-clause-ok
returns-then-not-span-clause-ok c =
    let bs = c.args.blocks.now.items in
    let s = c.span_of-span.result in
    let span : IsSpan (all_runs bs) (c.args.lo + 1) c.args.hi (place bs s.block s.from) (place bs s.last s.to) = rw c.deref.ensures.value at c.span_of-span.ensures.span in
    let none : place bs s.block s.from ≡ place bs s.last s.to = rw c.deref.ensures.value at c.span_of-span.ensures.none (is_false s.some c.if-not-span.true) in
    kept_all (all_runs bs) bs c.args.lo c.args.hi (2 ^ 62) (place bs s.block s.from) (place bs s.last s.to) c.requires.apart c.requires.bound c.requires.some span none refl

pub returns-in_ok-split-in-true-true-clause-ok : goal.returns-in_ok-split-in-true-true-clause-ok
returns-in_ok-split-in-true-true-clause-ok c =
    let bs = c.args.blocks.now.items in
    let s = c.span_of-span.result in
    let span : IsSpan (all_runs bs) (c.args.lo + 1) c.args.hi (place bs s.block s.from) (place bs s.last s.to) = rw c.deref.ensures.value at c.span_of-span.ensures.span in
    let found : IsFound bs s.block s.from s.last s.to = rw c.deref.ensures.value at c.span_of-span.ensures.found (is_true s.some c.if-not-span.false) in
    let ends = read_ends bs s.block s.from s.last s.to c.index.result.now c.index-2.result.now c.run-start.result c.run-end.result found c.index.ensures c.run-start.ensures c.index-2.ensures c.run-end.ensures in
    rw (c.in_ok-split-in-true-true.ensures.ok, ends.start, ends.end) (removed_inside (all_runs bs) c.args.lo c.args.hi (2 ^ 62) (place bs s.block s.from) (place bs s.last s.to) c.requires.apart c.requires.bound c.requires.some span ends.some (omega (arith, ends.start, c.in-true-true.is-0)) (omega (arith, ends.end, c.in-true-true.is-1)))

pub returns-in_err-split-in-true-true-clause-inside : goal.returns-in_err-split-in-true-true-clause-inside
returns-in_err-split-in-true-true-clause-inside c =
    let bs = c.args.blocks.now.items in
    let s = c.span_of-span.result in
    let span : IsSpan (all_runs bs) (c.args.lo + 1) c.args.hi (place bs s.block s.from) (place bs s.last s.to) = rw c.deref.ensures.value at c.span_of-span.ensures.span in
    let found : IsFound bs s.block s.from s.last s.to = rw c.deref.ensures.value at c.span_of-span.ensures.found (is_true s.some c.if-not-span.false) in
    let ends = read_ends bs s.block s.from s.last s.to c.index.result.now c.index-2.result.now c.run-start.result c.run-end.result found c.index.ensures c.run-start.ensures c.index-2.ensures c.run-end.ensures in
    let one : place bs s.block s.from + 1 ≡ place bs s.last s.to = c.in_err-split-in-true-true.ensures.one in
    on_err c.from_residual.result (omega (arith, c.in-true-true.is-0), λ n ge less. contains_around (all_runs bs) c.args.lo c.args.hi (2 ^ 62) (place bs s.block s.from) (place bs s.last s.to) c.requires.apart c.requires.bound c.requires.some span ends.some one (omega (arith, ends.start, c.in-true-true.is-0)) (omega (arith, ends.end, c.in-true-true.is-1)) n ge less)

pub runs_in-requires-clause-few : goal.runs_in-requires-clause-few
runs_in-requires-clause-few c = rw c.deref-2.ensures.value (omega (arith, count_fits (all_runs c.args.blocks.now.items) c.requires.apart c.requires.bound))

pub overflow_add-result : goal.overflow_add-result
overflow_add-result c = omega (arith, c.requires.counted, count_fits (all_runs c.args.blocks.now.items) c.requires.apart c.requires.bound)

pub overflow_add-result-in-true-false : goal.overflow_add-result-in-true-false
overflow_add-result-in-true-false c = omega (arith, c.requires.counted, count_fits (all_runs c.args.blocks.now.items) c.requires.apart c.requires.bound)

pub overflow_add-result-in-false-true : goal.overflow_add-result-in-false-true
overflow_add-result-in-false-true c = omega (arith, c.requires.counted, count_fits (all_runs c.args.blocks.now.items) c.requires.apart c.requires.bound)

pub returns-in-true-false-clause-ok : goal.returns-in-true-false-clause-ok
returns-in-true-false-clause-ok c =
    let bs = c.args.blocks.now.items in
    let s = c.span_of-span.result in
    let span : IsSpan (all_runs bs) (c.args.lo + 1) c.args.hi (place bs s.block s.from) (place bs s.last s.to) = rw c.deref.ensures.value at c.span_of-span.ensures.span in
    let found : IsFound bs s.block s.from s.last s.to = rw c.deref.ensures.value at c.span_of-span.ensures.found (is_true s.some c.if-not-span.false) in
    let ends = read_ends bs s.block s.from s.last s.to c.index.result.now c.index-2.result.now c.run-start.result c.run-end.result found c.index.ensures c.run-start.ensures c.index-2.ensures c.run-end.ensures in
    cut_end (all_runs bs) c.replace.new.blocks.items c.args.lo c.args.hi (2 ^ 62) (place bs s.block s.from) (place bs s.last s.to) c.requires.apart c.requires.bound c.requires.some c.run-start.result.0 c.run-end.result.1 span ends.some ends.start ends.end c.in-true-false.is-0 c.in-true-false.is-1 c.replace.ensures

pub returns-in-false-true-clause-ok : goal.returns-in-false-true-clause-ok
returns-in-false-true-clause-ok c =
    let bs = c.args.blocks.now.items in
    let s = c.span_of-span.result in
    let span : IsSpan (all_runs bs) (c.args.lo + 1) c.args.hi (place bs s.block s.from) (place bs s.last s.to) = rw c.deref.ensures.value at c.span_of-span.ensures.span in
    let found : IsFound bs s.block s.from s.last s.to = rw c.deref.ensures.value at c.span_of-span.ensures.found (is_true s.some c.if-not-span.false) in
    let ends = read_ends bs s.block s.from s.last s.to c.index.result.now c.index-2.result.now c.run-start.result c.run-end.result found c.index.ensures c.run-start.ensures c.index-2.ensures c.run-end.ensures in
    cut_start (all_runs bs) c.replace-in-false-true.new.blocks.items c.args.lo c.args.hi (2 ^ 62) (place bs s.block s.from) (place bs s.last s.to) c.requires.apart c.requires.bound c.requires.some c.run-start.result.0 c.run-end.result.1 span ends.some ends.start ends.end c.in-false-true.is-0 c.in-false-true.is-1 c.replace-in-false-true.ensures

pub returns-in-false-false-clause-ok : goal.returns-in-false-false-clause-ok
returns-in-false-false-clause-ok c =
    let bs = c.args.blocks.now.items in
    let s = c.span_of-span.result in
    let span : IsSpan (all_runs bs) (c.args.lo + 1) c.args.hi (place bs s.block s.from) (place bs s.last s.to) = rw c.deref.ensures.value at c.span_of-span.ensures.span in
    let found : IsFound bs s.block s.from s.last s.to = rw c.deref.ensures.value at c.span_of-span.ensures.found (is_true s.some c.if-not-span.false) in
    let ends = read_ends bs s.block s.from s.last s.to c.index.result.now c.index-2.result.now c.run-start.result c.run-end.result found c.index.ensures c.run-start.ensures c.index-2.ensures c.run-end.ensures in
    cut_all (all_runs bs) c.take_out.new.blocks.items c.args.lo c.args.hi (2 ^ 62) (place bs s.block s.from) (place bs s.last s.to) c.requires.apart c.requires.bound c.requires.some c.run-start.result.0 c.run-end.result.1 span ends.some ends.start ends.end c.in-false-false.is-0 c.in-false-false.is-1 c.take_out.ensures
