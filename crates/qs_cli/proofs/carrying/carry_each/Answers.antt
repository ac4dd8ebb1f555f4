use Rattle.std.proofs.Common.{le_trans}
use Rattle.qs_cli.proofs.Carried.{carried_more, carrying_stops}
use Rattle.qs_cli.proofs.carrying.carry_each.Goals as goal

pub returns-in-Err-clause-carried : goal.returns-in-Err-clause-carried
returns-in-Err-clause-carried g c =
    carrying_stops _ _ _ c.args.events.now c.loop-event.event-index c.event-item.result c.loop-event.strangers c.in-Err.fault c.loop-event.world c.carry_event.new.world
    c.loop-event-test.true c.event-item.is c.loop-event.invariant.0 c.in-Err.ensures.step

pub loop-event-preserved : goal.loop-event-preserved
loop-event-preserved g c = (
  rw c.counted-strangers.ensures (carried_more _ _ _ c.args.events.now c.loop-event.event-index c.event-item.result c.in-Ok.stranger c.loop-event.strangers c.loop-event.world c.carry_event.new.world
      c.loop-event-test.true c.event-item.is c.loop-event.invariant.0 c.in-Ok.ensures.step),
  le_trans c.loop-event.invariant.1 c.in-Ok.ensures.rise,
)
