use Rattle.std.proofs.Common.{◌≡◌, ◌<◌, ◌^◌, length, arith}
use Rattle.qs_ranges.specs.Blocks.{all_runs, runs_of, few_runs}
use Rattle.qs_ranges.proofs.Edits.{difference-no_numbers, no_block, some_block, taken, enclosed}
use Rattle.qs_ranges.proofs.RangeSet.remove.Goals as goal

pub returns-then-lo-hi-clause-ok : goal.returns-then-lo-hi-clause-ok
returns-then-lo-hi-clause-ok c = difference-no_numbers _ _ _ c.if-lo-hi.true

pub returns-then-is_empty-clause-ok : goal.returns-then-is_empty-clause-ok
returns-then-is_empty-clause-ok c =
    let bs = c.self.inside.blocks.items in
    let value = c.self.inside.few in
    let none : length bs ≡ 0 = grind (arith, c.if-is_empty.true, c.is_empty.ensures) in
    let same : runs_of bs value ≡ few_runs value = no_block bs value none in
    taken c.args.self.now (runs_of bs value) (few_runs value) c.args.lo c.args.hi c.self.view_is same c.remove_few.result (runs_of c.remove_few.new.blocks.items c.remove_few.new.few) (2 ^ 62) c.remove_few.ensures.ok

pub returns-then-is_empty-clause-inside : goal.returns-then-is_empty-clause-inside
returns-then-is_empty-clause-inside c =
    let bs = c.self.inside.blocks.items in
    let value = c.self.inside.few in
    let none : length bs ≡ 0 = grind (arith, c.if-is_empty.true, c.is_empty.ensures) in
    let same : runs_of bs value ≡ few_runs value = no_block bs value none in
    enclosed c.args.self.now (runs_of bs value) (few_runs value) c.args.lo c.args.hi c.self.view_is same c.remove_few.result c.remove_few.ensures.inside

pub returns-clause-ok : goal.returns-clause-ok
returns-clause-ok c =
    let bs = c.self.inside.blocks.items in
    let value = c.self.inside.few in
    let some : 0 < length bs = grind (arith, c.if-is_empty.false, c.is_empty.ensures) in
    let same : runs_of bs value ≡ all_runs bs = some_block bs value some in
    taken c.args.self.now (runs_of bs value) (all_runs bs) c.args.lo c.args.hi c.self.view_is same c.remove_many.result (runs_of c.remove_many.new.blocks.items c.remove_many.new.few) (2 ^ 62) c.remove_many.ensures.ok

pub returns-clause-inside : goal.returns-clause-inside
returns-clause-inside c =
    let bs = c.self.inside.blocks.items in
    let value = c.self.inside.few in
    let some : 0 < length bs = grind (arith, c.if-is_empty.false, c.is_empty.ensures) in
    let same : runs_of bs value ≡ all_runs bs = some_block bs value some in
    enclosed c.args.self.now (runs_of bs value) (all_runs bs) c.args.lo c.args.hi c.self.view_is same c.remove_many.result c.remove_many.ensures.inside
