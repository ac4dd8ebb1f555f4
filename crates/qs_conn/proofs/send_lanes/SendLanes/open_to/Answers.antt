use Rattle.std.proofs.Common.{◌+◌, ◌*◌, ◌∙◌, ap, arith, refl}
use Rattle.qs_send.specs.Lane.{new_sending}
use Rattle.qs_conn.proofs.LaneEdits.{widened_none, widened_next, widened_len, widened_back, widened_all}
use Rattle.qs_conn.proofs.Tasks.{promised_of, kept_of, sum_back}
use Rattle.qs_conn.proofs.send_lanes.SendLanes.open_to.Goals as goal

pub loop-index-init : goal.loop-index-init
loop-index-init c = widened_none _ _ _ _ c.len-before.ensures.value

pub open_next-requires-clause-few : goal.open_next-requires-clause-few
open_next-requires-clause-few c = omega (arith, widened_len c.args.self.now _ _ _ c.args.count c.loop-index.invariant _ c.len-before.ensures.value c.loop-index.auto._index c.loop-index-test.true, c.loop-index-test.true, c.requires.count)

pub close_to-requires-clause-unwritten : goal.close_to-requires-clause-unwritten
close_to-requires-clause-unwritten c = sum_back promised_of c.args.stream_type c.args.limit c.args.buffer (λ i. refl) c.args.self.now _ _ _ (c.in-Err.ensures.err ∙ c.loop-index.invariant) c.len-before.ensures.value

pub close_to-requires-clause-unkept : goal.close_to-requires-clause-unkept
close_to-requires-clause-unkept c = sum_back kept_of c.args.stream_type c.args.limit c.args.buffer (λ i. refl) c.args.self.now _ _ _ (c.in-Err.ensures.err ∙ c.loop-index.invariant) c.len-before.ensures.value

pub returns-in-Err-clause-err : goal.returns-in-Err-clause-err
returns-in-Err-clause-err c = c.close_to.ensures ∙ widened_back _ _ _ _ _ (c.in-Err.ensures.err ∙ c.loop-index.invariant) _ c.len-before.ensures.value

pub loop-index-preserved : goal.loop-index-preserved
loop-index-preserved c =
    let here = widened_len c.args.self.now _ _ _ c.args.count c.loop-index.invariant _ c.len-before.ensures.value c.loop-index.auto._index c.loop-index-test.true in
    c.in_default.ensures.ok
    ∙ widened_next c.args.self.now _ _ _ _ c.loop-index.invariant _ c.len-before.ensures.value c.loop-index.auto._index c.loop-index-test.true _ (ap (λ k. new_sending (k * 4 + c.args.stream_type) c.args.limit c.args.buffer) here)

pub returns-clause-ok : goal.returns-clause-ok
returns-clause-ok c = widened_all _ _ _ _ _ c.loop-index.invariant c.loop-index-test.false
