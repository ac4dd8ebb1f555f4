use Rattle.std.proofs.Common.{◌≡◌, ◌++◌, [], length}
use Rattle.std.specs.Vec.Iter.{into_iter_items, into_iter_len}
use Rattle.qs_calls.specs.declared.settings.Settings.{Settings}
use Rattle.qs_world.specs.Plays.{HasPlayed}
use Rattle.qs_world.proofs.playing.play_each.Given as goal

-- the events so far were played, and the others are left
abbrev pub invariant-loop-event : goal.invariant-loop-event
invariant-loop-event l = (l.yielded ++ into_iter_items l.event-iterator ≡ into_iter_items l.initial.event-iterator)
    × (into_iter_len l.event-iterator ≡ length (into_iter_items l.event-iterator))
    × ((a b : Settings) → HasPlayed a b [] l.initial.world → HasPlayed a b l.yielded l.world)
