use Rattle.std.proofs.Common.{◌+◌, ◌*◌}
use Rattle.qs_world.specs.Draining.{HasDrained, turns_to_make}
use Rattle.qs_world.proofs.world.World.drain.Given as goal

-- so many of the events that are allowed are left, and it is this one's turn
abbrev pub invariant-loop-turn : goal.invariant-loop-turn
invariant-loop-turn l = HasDrained l.initial.self l.fn.most l.self l.left l.turn

-- a turn that is over comes nearer to one that makes packets, and that one takes of what is left
abbrev pub decreases-loop-turn : goal.decreases-loop-turn
decreases-loop-turn l = 4 * l.left + turns_to_make l.turn
