use Rattle.std.proofs.Common.{◌∙◌, ◌+◌, ◌/◌, ap, sym, arith, length, slice_index}
use Rattle.std.proofs.lemmas.Bool.{both_ways}
use Rattle.qs_recv.proofs.RingLaws.{vec_written}
use Rattle.std.specs.Option.{is_some, option_copied_mut}
use Rattle.std.specs.Vec.{with_items}
use Rattle.qs_recv.proofs.RingApart.{piece_put, piece_stays, piece_whole}
use Rattle.qs_recv.proofs.pages.Pages.write.Goals.{in-Some, in-None}
use Rattle.qs_recv.proofs.pages.Pages.write.Goals as goal

pub loop-done-preserved : goal.loop-done-preserved
loop-done-preserved c =
    let inv = c.loop-done.invariant in
    let init = c.args.self.now.pages in
    let m = c.loop-done.self.pages in
    let at = c.args.at in
    let done = c.loop-done.done in
    let count = c.min-count.result in
    let bytes = c.args.bytes.now in
    elim c.match-get_mut.branch [
      | in-Some w ↦
          let page = w.in-Some.page.now in
          let after = with_items page w.write_at.new.into in
          let n = c.get_mut.follows.lender after in
          let is = sym (ap option_copied_mut w.in-Some.is) ∙ c.get_mut.ensures.value in
          let updates = ((c.get_mut.follows.holds after).3 (sym (ap is_some is))).0 in
          let same_len = rw w.deref_mut.ensures.value at w.write_at.ensures.same_len in
          let full = vec_written page.len page.items w.write_at.new.into same_len (sym page.ok.0) in
          rw w.self-is (
          record {
            within = omega (arith, c.min-count.ensures);
            whole = piece_whole m n ((at + done) / 2048) page after inv.whole is (ap length full ∙ same_len) updates;
            stay = λ q. piece_stays init m n ((at + done) / 2048) q page after is (updates q) (inv.stay q);
            written = λ q. piece_put init m n at done count q bytes page after c.loop-done-test.true c.min-count.ensures is (updates (q / 2048)) (λ k. ap (λ xs. slice_index xs k) full ∙ rw w.deref_mut.ensures.value at (w.write_at.ensures.written k)) (inv.written q);
          }
          )
      | in-None w ↦
          let used = inv.stay ((at + done) / 2048) ∙ c.requires.had (at + done) (omega arith) (omega (arith, c.loop-done-test.true)) in
          absurd (both_ways _ (ap is_some (sym (sym (ap option_copied_mut w.in-None.is) ∙ c.get_mut.ensures.value))) used)
    ]
