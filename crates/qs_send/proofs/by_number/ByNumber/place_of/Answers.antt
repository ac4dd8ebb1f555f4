use Rattle.std.proofs.Common.{◌<◌, ◌∙◌, Ok, subst, sym, arith, rules}
use Rattle.qs_send.specs.ByNumber.{IsAt, IsGapAt}
use Rattle.qs_send.proofs.Outstanding.{at_first, gap_past, gap_none, held_by}
use Rattle.qs_send.proofs.by_number.ByNumber.place_of.Goals as goal

gap : (c : goal.Then-number) → IsGapAt c.args.number c.self.inside.records.items c.len-count.result
gap c = gap_past c.args.number c.self.inside.records.items c.len-count.result c.index.result.now c.self.invariant.0 (omega (arith, c.len-count.ensures)) c.if-count-gt0.true c.index.ensures (subst (λ k. k < c.args.number) c.number.ensures c.if-number.true)

pub returns-then-number-clause-gap : goal.returns-then-number-clause-gap
returns-then-number-clause-gap c = rw (← c.self.view_is) (gap c)

pub returns-then-number-clause-is : goal.returns-then-number-clause-is
returns-then-number-clause-is c = rw (← c.self.view_is) (search (rules, held_by, gap))

pub returns-then-number-clause-none : goal.returns-then-number-clause-none
returns-then-number-clause-none c = rw (← c.self.view_is) (gap_none c.args.number 0 c.self.inside.records.items c.len-count.result c.self.invariant.0 (gap c))

pub returns-then-number-2-clause-is : goal.returns-then-number-2-clause-is
returns-then-number-2-clause-is c =
    let rs = c.self.inside.records.items in
    let at : IsAt c.args.number rs 0 = at_first c.args.number rs c.index-then-count-gt0-2.result.now (omega (arith, c.if-count-gt0-2.true, c.len-count.ensures)) c.index-then-count-gt0-2.ensures (sym c.number-then-count-gt0-2.ensures ∙ c.if-number-2.true) in
    rw (← c.self.view_is) (held_by c.args.number rs (Ok 0) c.self.invariant.0 at tt)
