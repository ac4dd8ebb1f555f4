use Rattle.std.proofs.Common.{◌≡◌, ◌∙◌, ◌/◌, ◌%◌, ap, sym, refl, arith, inl, inr, is_some, length, slice_index, true}
use Rattle.std.proofs.lemmas.Bool.{both_ways, cases_lt}
use Rattle.std.specs.Ordering.{nat_cmp}
use Rattle.std.specs.BTreeMap as tree
use Rattle.qs_recv.proofs.RingApart.{all_moved, left_next, left_there, piece_moved, piece_passed}
use Rattle.qs_recv.proofs.RingTurned.{piece_there}
use Rattle.qs_recv.proofs.pages.Pages.move_into.Goals.{in-Some, in-None}
use Rattle.qs_recv.proofs.pages.Pages.move_into.Goals as goal

pub loop-number-preserved : goal.loop-number-preserved
loop-number-preserved c =
    let inv = c.loop-number.invariant in
    let init = c.args.self.now.pages in
    let m = c.loop-number.self.pages in
    let n = c.remove.new.self in
    let from = c.args.from in
    let to = c.args.to in
    let number = c.loop-number.number in
    let old = c.args.ring.now.0 in
    let mid = c.loop-number.ring.0 in
    let there = left_there init m from to number (inv.left number) in
    elim c.match-remove.branch [
      | in-Some w ↦
          let page = w.in-Some.page in
          let is = sym w.in-Some.is ∙ c.remove.ensures.value ∙ there in
          let whole = c.requires.whole number page (sym is) in
          rw w.ring-is (
          record {
            begins = omega (arith, inv.begins);
            small = omega (arith, c.loop-number-test.true);
            same_len = w.write.ensures.same_len ∙ inv.same_len;
            kept = λ q stays. w.write.ensures.kept q (inv.kept q stays);
            there = λ q far low below had. piece_there number to q w.min-count.result page.items c.loop-number.ring w.write.new.self c.loop-number-test.true w.min-count.ensures whole w.write.ensures.kept (rw w.deref.ensures.value at w.write.ensures.there)
                low below (λ before. inv.there q far before below had);
            left = λ k. left_next init m n from to number k c.loop-number-test.true inv.begins (inv.left k) (c.remove.ensures.updates.0 k);
            moved = λ base q low fits at high. piece_moved init from to number base q w.min-count.result page old mid w.write.new.self.0 c.loop-number-test.true inv.begins w.min-count.ensures is whole inv.same_len
                (rw w.deref.ensures.value at w.write.ensures.written) low fits at high (inv.moved base q low fits at high);
          }
          )
      | in-None w ↦
          let none = sym w.in-None.is ∙ c.remove.ensures.value ∙ there in
          rw w.ring-is (
          record {
            begins = omega (arith, inv.begins);
            small = omega (arith, c.loop-number-test.true);
            same_len = inv.same_len;
            kept = inv.kept;
            there = λ q far low below had. elim (cases_lt (q / 2048) number) [
              | inl before ↦ inv.there q far before below had
              | inr here ↦ absurd (let at : q / 2048 ≡ number = omega (arith, low, here) in both_ways true (sym had ∙ ap (λ k. is_some (tree.get nat_cmp init k)) at ∙ ap is_some (sym none)) refl)
            ];
            left = λ k. left_next init m n from to number k c.loop-number-test.true inv.begins (inv.left k) (c.remove.ensures.updates.0 k);
            moved = λ base q low fits at high. piece_passed init from number q (slice_index mid (q % length old)) (slice_index old (q % length old)) none (inv.moved base q low fits at high);
          }
          )
    ]

pub returns-clause-moved : goal.returns-clause-moved
returns-clause-moved c =
    let inv = c.loop-number.invariant in
    let old = c.args.ring.now.0 in
    λ base q low fits at high. all_moved c.args.self.now.pages c.args.from c.args.to c.loop-number.number q (slice_index c.loop-number.ring.0 (q % length old)) (slice_index old (q % length old)) (omega (arith, c.loop-number-test.false)) high (inv.moved base q low fits at high)
