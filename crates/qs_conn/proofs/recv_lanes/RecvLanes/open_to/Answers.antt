use Rattle.std.proofs.Common.{◌∙◌, arith, refl}
use Rattle.qs_conn.proofs.LaneEdits.{widened_none, widened_next, widened_len, widened_back, widened_all, tally_back}
use Rattle.qs_conn.proofs.recv_lanes.RecvLanes.open_to.Goals as goal

pub loop-index-init : goal.loop-index-init
loop-index-init c = widened_none _ _ _ _ c.len-before.ensures.value

pub open_next-requires-clause-few : goal.open_next-requires-clause-few
open_next-requires-clause-few c = omega (arith, widened_len c.args.self.now _ _ _ c.args.count c.loop-index.invariant _ c.len-before.ensures.value c.loop-index.auto._index c.loop-index-test.true, c.loop-index-test.true, c.requires.few)

pub close_to-requires : goal.close_to-requires
close_to-requires c = tally_back c.args.window c.args.share c.args.self.now _ _ _ (c.in-Err.ensures.err ∙ c.loop-index.invariant) c.len-before.ensures.value

pub returns-in-Err-clause-err : goal.returns-in-Err-clause-err
returns-in-Err-clause-err c = c.close_to.ensures ∙ widened_back _ _ _ _ _ (c.in-Err.ensures.err ∙ c.loop-index.invariant) _ c.len-before.ensures.value

pub loop-index-preserved : goal.loop-index-preserved
loop-index-preserved c = c.in_default.ensures.ok ∙ widened_next c.args.self.now _ _ _ _ c.loop-index.invariant _ c.len-before.ensures.value c.loop-index.auto._index c.loop-index-test.true _ refl

pub returns-clause-ok : goal.returns-clause-ok
returns-clause-ok c = widened_all _ _ _ _ _ c.loop-index.invariant c.loop-index-test.false
