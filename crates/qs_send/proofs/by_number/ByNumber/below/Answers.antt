use Rattle.std.proofs.Common.{◌≡◌, suc, ◌-◌, arith, subst, rules}
use Rattle.qs_send.specs.ByNumber.{IsCut}
use Rattle.qs_send.proofs.Outstanding.{greatest_before, nothing_before}
use Rattle.qs_send.proofs.by_number.ByNumber.below.Goals as goal

pub returns-then-count-eq0-clause-none : goal.returns-then-count-eq0-clause-none
returns-then-count-eq0-clause-none c = rw (← c.self.view_is) (search (rules, nothing_before))

pub returns-clause-found : goal.returns-clause-found
returns-clause-found c =
    let rs = c.self.inside.records.items in
    let count = c.count_near-count.result in
    let last : count ≡ suc (count - 1) = omega (arith, c.if-count-eq0.false) in
    let whole : IsCut c.args.number rs count = rw (← c.self.view_is) at c.count_near-count.ensures.cut in
    let cut : IsCut c.args.number rs (suc (count - 1)) = subst (IsCut c.args.number rs) last whole in
    rw (c.number.ensures, ← c.self.view_is) (greatest_before c.args.number rs (count - 1) c.index.result.now c.self.invariant.0 cut c.index.ensures)
