use Rattle.std.proofs.Common.{take}
use Rattle.qs_world.specs.Copies.{SameLog}
use Rattle.qs_world.proofs.copies.copy_log.Given as goal

-- what was copied is the front of the log
abbrev pub invariant-loop-event : goal.invariant-loop-event
invariant-loop-event l = SameLog l.copy.items (take l.event-index l.log)
