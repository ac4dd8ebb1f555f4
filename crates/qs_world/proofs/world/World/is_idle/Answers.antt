use Rattle.qs_world.specs.Draining.{IsIdle}
use Rattle.qs_world.proofs.Draining.{both_then, both_else}
use Rattle.qs_world.proofs.world.World.is_idle.Goals as goal

pub returns-then-is_idle-clause-idle : goal.returns-then-is_idle-clause-idle
returns-then-is_idle-clause-idle c =
    rw (← c.self.view_is)
    (both_then (IsIdle c.self.inside.a) (IsIdle c.self.inside.b) c.is_idle.result c.is_idle-then-is_idle.result c.if-is_idle.true c.is_idle.ensures
    c.is_idle-then-is_idle.ensures)

pub returns-then-is_idle-clause-agrees : goal.returns-then-is_idle-clause-agrees
returns-then-is_idle-clause-agrees c = rw (← c.self.view_is) c.self.invariant

pub returns-else-is_idle-clause-idle : goal.returns-else-is_idle-clause-idle
returns-else-is_idle-clause-idle c =
    rw (← c.self.view_is) (both_else (IsIdle c.self.inside.a) (IsIdle c.self.inside.b) c.is_idle.result c.if-is_idle.false c.is_idle.ensures)

pub returns-else-is_idle-clause-agrees : goal.returns-else-is_idle-clause-agrees
returns-else-is_idle-clause-agrees c = rw (← c.self.view_is) c.self.invariant
