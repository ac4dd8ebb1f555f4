use Rattle.qs_world.proofs.PlayedCopies.{copies_more, copies_stop, copies_refused}
use Rattle.qs_world.proofs.playing.play_copies.Goals as goal

pub returns-in_default-clause-err : goal.returns-in_default-clause-err
returns-in_default-clause-err c = λ a b begun. copies_refused c.args.events.now a b

pub returns-in-Err-clause-err : goal.returns-in-Err-clause-err
returns-in-Err-clause-err c =
    copies_stop c.args.events.now c.loop-event.event-index c.event-item.result c.in-Ok.copy c.in-Err.fault c.args.world.now c.loop-event.world
    c.happen.new.self c.loop-event-test.true c.event-item.is c.in-Ok.ensures c.loop-event.invariant c.in-Err.ensures.step

pub loop-event-preserved : goal.loop-event-preserved
loop-event-preserved c =
    copies_more c.args.events.now c.loop-event.event-index c.event-item.result c.in-Ok.copy c.args.world.now c.loop-event.world c.happen.new.self
    c.loop-event-test.true c.event-item.is c.in-Ok.ensures c.loop-event.invariant c.in_default-happen.ensures.step
