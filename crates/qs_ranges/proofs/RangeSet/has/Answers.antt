use Rattle.std.proofs.Common.{◌≡◌, arith, sym, length}
use Rattle.std.proofs.lemmas.Bool.Decides.{nat_tests}
use Rattle.qs_ranges.proofs.Edits.{apart_few, has_few}
use Rattle.qs_ranges.proofs.RangeSet.has.Goals as goal

pub returns-in-InBlocks : goal.returns-in-InBlocks
returns-in-InBlocks c =
    let none : length c.self.inside.blocks.items ≡ 0 = grind (arith, c.if-not-is_empty.false, c.is_empty.ensures) in
    rw (← c.self.view_is) (sym (has_few _ c.self.inside.few _ c.args.n none c.in-InBlocks.is))

pub returns-then-run-n : goal.returns-then-run-n
returns-then-run-n c =
    let none : length c.self.inside.blocks.items ≡ 0 = grind (arith, c.if-not-is_empty.false, c.is_empty.ensures) in
    rw (← c.self.view_is, has_few _ c.self.inside.few _ c.args.n none c.in-One.is) (let from = c.if-run-n.true in grind (arith, nat_tests))

pub returns-else-run-n : goal.returns-else-run-n
returns-else-run-n c =
    let none : length c.self.inside.blocks.items ≡ 0 = grind (arith, c.if-not-is_empty.false, c.is_empty.ensures) in
    rw (← c.self.view_is, has_few _ c.self.inside.few _ c.args.n none c.in-One.is) (let from = c.if-run-n.false in grind (arith, nat_tests))

pub returns-in-Two : goal.returns-in-Two
returns-in-Two c =
    let none : length c.self.inside.blocks.items ≡ 0 = grind (arith, c.if-not-is_empty.false, c.is_empty.ensures) in
    let apart = apart_few _ c.self.inside.few _ none c.in-Two.is c.self.invariant.0 in
    rw (← c.self.view_is, has_few _ c.self.inside.few _ c.args.n none c.in-Two.is) (let from = c.if-high-n.true in grind (arith, nat_tests, apart.2.0, apart.1))

pub returns-then-low-n : goal.returns-then-low-n
returns-then-low-n c =
    let none : length c.self.inside.blocks.items ≡ 0 = grind (arith, c.if-not-is_empty.false, c.is_empty.ensures) in
    rw (← c.self.view_is, has_few _ c.self.inside.few _ c.args.n none c.in-Two.is) (let until = c.if-high-n.false in let from = c.if-low-n.true in grind (arith, nat_tests))

pub returns-else-low-n : goal.returns-else-low-n
returns-else-low-n c =
    let none : length c.self.inside.blocks.items ≡ 0 = grind (arith, c.if-not-is_empty.false, c.is_empty.ensures) in
    rw (← c.self.view_is, has_few _ c.self.inside.few _ c.args.n none c.in-Two.is) (let until = c.if-high-n.false in let from = c.if-low-n.false in grind (arith, nat_tests))
