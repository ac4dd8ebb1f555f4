use Rattle.std.proofs.Common.{◌≡◌, ◌<◌, ◌^◌, length, subst, ap, ◌∙◌, sym, arith}
use Rattle.std.specs.Prelude.{IfSome}
use Rattle.qs_ranges.specs.Blocks.{all_runs, runs_of, first_run_above, few_runs}
use Rattle.qs_ranges.proofs.Sets.{EndsBefore-from_AllBelow}
use Rattle.qs_ranges.proofs.Edits.{AllBelow-set_of, IsTwoAbove, two_answers, no_block, some_block}
use Rattle.qs_ranges.proofs.RangeSet.runs_above.Goals as goal

few : (c : goal.After-few_above_two) → IsTwoAbove c.args.self.now c.args.n c.few_above_two.result.0 c.few_above_two.result.1
few c =
    let bs = c.self.inside.blocks.items in
    let value = c.self.inside.few in
    let none : length bs ≡ 0 = grind (arith, c.if-is_empty.true, c.is_empty.ensures) in
    let same : few_runs value ≡ runs_of bs value = sym (no_block bs value none) in
    two_answers (runs_of bs value) c.args.self.now c.args.n c.few_above_two.result.0 c.few_above_two.result.1 c.self.view_is c.self.invariant.0 (c.few_above_two.ensures.first ∙ ap (first_run_above c.args.n) same) (subst (λ l. IfSome c.few_above_two.result.0 (λ run. c.few_above_two.result.1 ≡ first_run_above run.1 l)) same c.few_above_two.ensures.next)

pub returns-then-is_empty-clause-found : goal.returns-then-is_empty-clause-found
returns-then-is_empty-clause-found c = (few c).found

pub returns-then-is_empty-clause-none : goal.returns-then-is_empty-clause-none
returns-then-is_empty-clause-none c = (few c).none

pub returns-then-is_empty-clause-next : goal.returns-then-is_empty-clause-next
returns-then-is_empty-clause-next c = (few c).next

pub returns-then-is_empty-clause-last : goal.returns-then-is_empty-clause-last
returns-then-is_empty-clause-last c = (few c).last

pub returns-then-n-clause-none : goal.returns-then-n-clause-none
returns-then-n-clause-none c =
    let bs = c.self.inside.blocks.items in
    let value = c.self.inside.few in
    rw (← c.self.view_is) (λ m ge. EndsBefore-from_AllBelow _ (2 ^ 62) (AllBelow-set_of (2 ^ 62) (runs_of bs value) c.self.invariant.1) m (omega (arith, c.if-n.true)))

many : (c : goal.After-two_above) → IsTwoAbove c.args.self.now c.args.n c.two_above.result.0 c.two_above.result.1
many c =
    let bs = c.self.inside.blocks.items in
    let value = c.self.inside.few in
    let some : 0 < length bs = grind (arith, c.if-is_empty.false, c.is_empty.ensures) in
    let same : all_runs bs ≡ runs_of bs value = sym (some_block bs value some) in
    let first : c.two_above.result.0 ≡ first_run_above c.args.n (all_runs bs) = rw c.deref.ensures.value at c.two_above.ensures.first in
    let next : IfSome c.two_above.result.0 (λ run. c.two_above.result.1 ≡ first_run_above run.1 (all_runs bs)) = rw c.deref.ensures.value at c.two_above.ensures.next in
    two_answers (runs_of bs value) c.args.self.now c.args.n c.two_above.result.0 c.two_above.result.1 c.self.view_is c.self.invariant.0 (first ∙ ap (first_run_above c.args.n) same) (subst (λ l. IfSome c.two_above.result.0 (λ run. c.two_above.result.1 ≡ first_run_above run.1 l)) same next)

pub returns-clause-found : goal.returns-clause-found
returns-clause-found c = (many c).found

pub returns-clause-none : goal.returns-clause-none
returns-clause-none c = (many c).none

pub returns-clause-next : goal.returns-clause-next
returns-clause-next c = (many c).next

pub returns-clause-last : goal.returns-clause-last
returns-clause-last c = (many c).last
