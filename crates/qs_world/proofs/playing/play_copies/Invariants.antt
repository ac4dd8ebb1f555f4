use Rattle.std.proofs.Common.{take}
use Rattle.qs_world.specs.Copies.{HasPlayedCopies}
use Rattle.qs_world.proofs.playing.play_copies.Given as goal

-- copies of the events so far were played
abbrev pub invariant-loop-event : goal.invariant-loop-event
invariant-loop-event l = HasPlayedCopies (take l.event-index l.events) l.initial.world l.world
