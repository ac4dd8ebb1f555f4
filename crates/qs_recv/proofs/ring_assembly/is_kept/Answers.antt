use Rattle.std.proofs.Common.{◌≡◌, ◌∙◌, ◌+◌, ◌<◌, ◌↔◌, ℕ, IsTrue, length, slice_index, sym, refl, arith, rules}
use Rattle.std.proofs.lemmas.Bool.{both_ways}
use Rattle.qs_recv.specs.Ring.{byte_of}
use Rattle.qs_recv.proofs.RingLaws.{part}
use Rattle.qs_recv.proofs.RingApart.{run_more, run_there, there_far, there_near}
use Rattle.qs_recv.proofs.ring_assembly.is_kept.Goals.{Joined-from-near}
use Rattle.qs_recv.proofs.ring_assembly.is_kept.Goals as goal

-- a run is there where its bytes are
there : (c : Joined-from-near) → (let from = c.next_run-from.result.0 in let run = part c.args.offset c.args.bytes.now from c.next_run-from.result.1 in
    IsTrue c.if-from-near.there ↔ ((k : ℕ) → k < length run → slice_index run k ≡ byte_of c.args.ring.now.0 c.args.near c.args.apart.now.pages (from + k)))
there c = search (rules, there_near, there_far, part)

pub loop-at-preserved : goal.loop-at-preserved
loop-at-preserved c =
    let run = c.next_run-from.ensures in
    let begun = c.loop-at.invariant.begins in
    let there = there (goal.at.loop-at-preserved c).Joined-from-near in
    record {
      begins = omega (arith, begun, run.some);
      before = run_more _ _ c.args.bytes.now c.args.start c.args.offset (c.args.offset + length c.args.bytes.now) c.loop-at.at c.next_run-from.result.0 c.next_run-from.result.1 c.requires.begins (omega arith) begun run c.loop-at.invariant.before (there.0 c.if-not-there.false);
    }

pub returns-then-not-there : goal.returns-then-not-there
returns-then-not-there c =
    let there = there (goal.at.returns-then-not-there c).Joined-from-near in (
      λ none. absurd (both_ways _ refl none),
      λ all. sym c.if-not-there.true ∙ there.1 (run_there _ _ c.args.bytes.now c.args.start c.args.offset (c.args.offset + length c.args.bytes.now) c.loop-at.at c.next_run-from.result.0 c.next_run-from.result.1 c.requires.begins (omega arith) c.loop-at.invariant.begins c.next_run-from.ensures all),
    )
