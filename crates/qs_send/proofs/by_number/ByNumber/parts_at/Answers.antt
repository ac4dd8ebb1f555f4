use Rattle.std.proofs.Common.{◌≡◌, ◌-◌, subst, arith, slice_index_or}
use Rattle.qs_send.proofs.Outstanding.{cut_by}
use Rattle.qs_send.proofs.by_number.ByNumber.parts_at.Goals as goal
use Rattle.qs_send.proofs.by_number.ByNumber.parts_at.Goals.{else-count-gt0-via-then-count-gt0+else-number, else-count-gt0-via-else-count-gt0}
use Rattle.qs_send.proofs.by_number.ByNumber.parts_at.Goals.{else-count-len-2-via-then-count-len-2+else-number-2, else-count-len-2-via-else-count-len-2}

pub returns-clause-cut : goal.returns-clause-cut
returns-clause-cut c = λ _. rw (← c.self.view_is) (
    let rs = c.self.inside.records.items in
    cut_by c.args.number 0 rs c.args.count c.self.invariant.0
    (let le = c.if-count-len.false in let len = c.len.ensures in omega (arith, le, len))
    (λ j is. elim c.else-count-gt0.branch [
      | else-count-gt0-via-then-count-gt0+else-number w ↦
          let x = w.index.result.now in
          let place : c.args.count - 1 ≡ j = omega (arith, is) in
          (x, subst (λ p. x ≡ slice_index_or rs p x) place w.index.ensures, (let less = w.if-number.false in let same = w.number.ensures in omega (arith, less, same)))
      | else-count-gt0-via-else-count-gt0 w ↦ let none = w.if-count-gt0.false in absurd (omega (arith, is, none))
    ])
    (λ more. elim c.else-count-len-2.branch [
      | else-count-len-2-via-then-count-len-2+else-number-2 w ↦
          let x = w.index-then-count-len-2.result.now in
          (x, w.index-then-count-len-2.ensures, (let ge = w.if-number-2.false in let same = w.number-then-count-len-2.ensures in omega (arith, ge, same)))
      | else-count-len-2-via-else-count-len-2 w ↦ let none = w.if-count-len-2.false in let len = c.len-2.ensures in absurd (omega (arith, more, none, len))
    ]))
