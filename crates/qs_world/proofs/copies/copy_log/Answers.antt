use Rattle.qs_world.proofs.LogCopies.{same_log_more}
use Rattle.qs_world.proofs.copies.copy_log.Goals as goal

pub loop-event-preserved : goal.loop-event-preserved
loop-event-preserved c =
    rw c.in_ok-push.ensures.items (same_log_more c.loop-event.copy.items c.args.log.now c.loop-event.event-index (c.in_ok-event.event, c.in_ok-answer.answer) c.loop-event-item.result
    c.loop-event-test.true c.loop-event-item.is c.loop-event.invariant c.in_ok-event.ensures c.in_ok-answer.ensures)
