use Rattle.std.proofs.Common.{◌≡◌, ◌<◌, length, take}
use Rattle.qs_send.specs.Halves.{halves_from, ArePlaced}
use Rattle.qs_send.proofs.halves.SendHalves.truncate.Given as goal

abbrev pub invariant-loop-self : goal.invariant-loop-self
invariant-loop-self l =
    (l.self-inside.stream_type < 4) × ArePlaced l.self-inside.slots.items (length l.self-inside.full.items) × (take l.fn.count (halves_from l.self-inside.stream_type l.self-inside.full.items 0 l.self-inside.slots.items) ≡ take l.fn.count l.fn.self)

abbrev pub decreases-loop-self : goal.decreases-loop-self
decreases-loop-self l = length l.self-inside.slots.items
