use Rattle.std.proofs.Common.{◌≡◌, ◌≤◌, ◌<◌, ◌+◌, ◌-◌}
use Rattle.qs_send.proofs.records.Records.fill_to.Given as goal

abbrev pub invariant-loop-self : goal.invariant-loop-self
invariant-loop-self l = (l.self.pieces ≡ l.fn.self.pieces) × (l.number < l.self.room) × (l.self.base + l.self.slots ≤ l.number)

abbrev pub decreases-loop-self : goal.decreases-loop-self
decreases-loop-self l = l.number - (l.self.base + l.self.slots)
