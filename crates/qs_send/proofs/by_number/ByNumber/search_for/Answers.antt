use Rattle.std.proofs.Common.{rules, IfOk, IfErr}
use Rattle.std.specs.Ordering.{nat_cmp}
use Rattle.std.specs.List.Sorted.{IsBinarySearchResult}
use Rattle.std.proofs.lemmas.List.Sorted.{answers_always}
use Rattle.qs_send.specs.ByNumber.{Numbered, IsAt, IsGapAt}
use Rattle.qs_send.proofs.Outstanding.{found_by, gap_by, held_by, none_by}
use Rattle.qs_send.proofs.by_number.ByNumber.search_for.Goals as goal

searched : (c : goal.After-binary_search_by_key) → IsBinarySearchResult (λ x. nat_cmp x.number c.args.number) c.deref.result.now c.binary_search_by_key.result
searched c = c.binary_search_by_key.ensures.position (λ (r : Numbered). r.number) (answers_always _ _ _ (λ f a r g called. search rules))

found : (c : goal.After-binary_search_by_key) → IfOk c.binary_search_by_key.result (IsAt c.args.number c.deref.result.now)
found c = found_by _ _ _ (rw c.deref.ensures.value c.self.invariant.0) c.binary_search_by_key.ensures.bound (searched c)

gap : (c : goal.After-binary_search_by_key) → IfErr c.binary_search_by_key.result (IsGapAt c.args.number c.deref.result.now)
gap c = gap_by _ _ _ (rw c.deref.ensures.value c.self.invariant.0) c.binary_search_by_key.ensures.bound (searched c)

pub returns-clause-found : goal.returns-clause-found
returns-clause-found c = rw (← c.self.view_is, ← c.deref.ensures.value) (found c)

pub returns-clause-gap : goal.returns-clause-gap
returns-clause-gap c = rw (← c.self.view_is, ← c.deref.ensures.value) (gap c)

pub returns-clause-is : goal.returns-clause-is
returns-clause-is c = rw (← c.self.view_is, ← c.deref.ensures.value) (search (rules, held_by, found, gap))

pub returns-clause-none : goal.returns-clause-none
returns-clause-none c = rw (← c.self.view_is, ← c.deref.ensures.value) (search (rules, none_by, gap))
