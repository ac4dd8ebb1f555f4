use Rattle.std.proofs.Common.{◌<◌, arith}
use Rattle.qs_world.proofs.Draining.{drains_past, drains_more, turn_then, turn_else, drained_to_rest}
use Rattle.qs_world.proofs.Rounds.{comes_to_rest}
use Rattle.qs_world.proofs.world.World.drain.Goals as goal

pub returns-then-left-eq0-clause-comes : goal.returns-then-left-eq0-clause-comes
returns-then-left-eq0-clause-comes c =
    let at = c.loop-turn in
    comes_to_rest c.args.self.now at.self c.args.most at.left at.turn c.learn_agreed.ensures at.invariant c.if-left-eq0.true

pub returns-then-left-eq0-clause-agrees : goal.returns-then-left-eq0-clause-agrees
returns-then-left-eq0-clause-agrees c = c.is_idle.ensures.agrees

pub loop-turn-preserved-then-has_made_none : goal.loop-turn-preserved-then-has_made_none
loop-turn-preserved-then-has_made_none c =
    let at = c.loop-turn in
    let some : 0 < at.left = omega (arith, c.if-left-eq0.false) in
    drains_more c.args.self.now at.self c.happen.new.self c.args.most at.left at.turn c.after-turn.result c.in-Some.event some at.invariant
    c.loop-turn-test.ensures.idle c.in-Some.ensures.plain.0 c.in_default.ensures.step
    (turn_then _ c.has_made_none.result _ at.turn c.after-turn.result c.has_made_none.ensures c.if-has_made_none.true c.after-turn.ensures.next)

pub loop-turn-preserved-else-has_made_none : goal.loop-turn-preserved-else-has_made_none
loop-turn-preserved-else-has_made_none c =
    let at = c.loop-turn in
    let some : 0 < at.left = omega (arith, c.if-left-eq0.false) in
    drains_more c.args.self.now at.self c.happen.new.self c.args.most at.left at.turn at.turn c.in-Some.event some at.invariant
    c.loop-turn-test.ensures.idle c.in-Some.ensures.plain.0 c.in_default.ensures.step
    (turn_else _ c.has_made_none.result _ at.turn c.has_made_none.ensures c.if-has_made_none.false)

pub loop-turn-preserved : goal.loop-turn-preserved
loop-turn-preserved c =
    let at = c.loop-turn in
    drains_past c.args.self.now at.self c.args.most at.left at.turn c.after-turn-in-None.result at.invariant c.in-None.ensures.over
    c.after-turn-in-None.ensures.next

pub returns-clause-drained : goal.returns-clause-drained
returns-clause-drained c =
    let at = c.loop-turn in
    drained_to_rest c.args.self.now at.self c.args.most at.left at.turn at.invariant c.loop-turn-test.ensures.idle c.is_idle.ensures.agrees

pub returns-clause-agrees : goal.returns-clause-agrees
returns-clause-agrees c = c.is_idle.ensures.agrees
