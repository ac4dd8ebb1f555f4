use Rattle.std.proofs.Common.{◌≡◌, length, ap, ◌∙◌, sym, arith}
use Rattle.std.specs.FinSet as set
use Rattle.qs_ranges.specs.Numbers.{run_starts}
use Rattle.qs_ranges.specs.Blocks.{all_runs, runs_of, few_runs}
use Rattle.qs_ranges.proofs.Edits.{no_block, some_block, counted, runs_are}
use Rattle.qs_ranges.proofs.RangeSet.copy_pairs.Goals.{After-is_empty, Then-is_empty, Else-is_empty}
use Rattle.qs_ranges.proofs.RangeSet.copy_pairs.Goals as goal

count : (c : After-is_empty) → set.len (run_starts c.args.self.now) ≡ length (runs_of c.self.inside.blocks.items c.self.inside.few)
count c = counted c.args.self.now c.self.inside.blocks.items c.self.inside.few c.self.invariant.0 c.self.view_is

few : (c : Then-is_empty) → runs_of c.self.inside.blocks.items c.self.inside.few ≡ few_runs c.self.inside.few
few c = no_block c.self.inside.blocks.items c.self.inside.few (grind (arith, c.if-is_empty.true, c.is_empty.ensures))

many : (c : Else-is_empty) → runs_of c.self.inside.blocks.items c.self.inside.few ≡ all_runs c.self.inside.blocks.items
many c = some_block c.self.inside.blocks.items c.self.inside.few (grind (arith, c.if-is_empty.false, c.is_empty.ensures))

pub copy_few-requires : goal.copy_few-requires
copy_few-requires c =
    let h = goal.at.copy_few-requires c in
    rw (← (few h.Then-is_empty), ← (count h.After-is_empty)) c.requires.room

pub returns-then-is_empty-clause-count : goal.returns-then-is_empty-clause-count
returns-then-is_empty-clause-count c =
    let h = goal.at.returns-then-is_empty-clause-count c in
    c.copy_few.ensures.count ∙ ap length (sym (few h.Then-is_empty)) ∙ sym (count h.After-is_empty)

pub returns-then-is_empty-clause-runs : goal.returns-then-is_empty-clause-runs
returns-then-is_empty-clause-runs c =
    let same = few (goal.at.returns-then-is_empty-clause-runs c).Then-is_empty in
    runs_are c.args.self.now c.self.inside.blocks.items c.self.inside.few c.self.invariant.0 c.self.view_is _ (c.copy_few.ensures.runs ∙ sym same)

pub copy_runs-requires : goal.copy_runs-requires
copy_runs-requires c =
    let h = goal.at.copy_runs-requires c in
    rw (c.deref.ensures.value, ← (many h.Else-is_empty), ← (count h.After-is_empty)) c.requires.room

pub returns-clause-count : goal.returns-clause-count
returns-clause-count c =
    let h = goal.at.returns-clause-count c in
    c.copy_runs.ensures.count ∙ ap (λ l. length (all_runs l)) c.deref.ensures.value ∙ ap length (sym (many h.Else-is_empty)) ∙ sym (count h.After-is_empty)

pub returns-clause-runs : goal.returns-clause-runs
returns-clause-runs c =
    let same = many (goal.at.returns-clause-runs c).Else-is_empty in
    runs_are c.args.self.now c.self.inside.blocks.items c.self.inside.few c.self.invariant.0 c.self.view_is _ (c.copy_runs.ensures.runs ∙ ap all_runs c.deref.ensures.value ∙ sym same)
