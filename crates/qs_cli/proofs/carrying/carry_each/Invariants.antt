use Rattle.std.proofs.Common.{◌≤◌, take}
use Rattle.qs_cli.specs.Carrying.{HasCarried}
use Rattle.qs_cli.proofs.carrying.carry_each.Given as goal

-- the events so far were handed in, and the count of failures didn't fall
abbrev pub invariant-loop-event : goal.invariant-loop-event
invariant-loop-event g l =
    HasCarried (g.Wi.Wire.failed l.fn.wire) (take l.event-index l.events) l.world (g.Wi.Wire.failed l.wire) l.strangers
    × ((g.Wi.Wire.failed l.fn.wire).calls ≤ (g.Wi.Wire.failed l.wire).calls)
