use Rattle.std.proofs.Common.{◌≡◌, ◌≤◌, ◌+◌}
use Rattle.qs_send.proofs.records.Records.trim.Given as goal

abbrev pub invariant-loop-self : goal.invariant-loop-self
invariant-loop-self l = (l.self.pieces ≡ l.fn.self.pieces) × (l.fn.self.room ≤ l.self.room) × (l.self.base + l.self.slots ≤ l.fn.self.base + l.fn.self.slots)

abbrev pub decreases-loop-self : goal.decreases-loop-self
decreases-loop-self l = l.self.slots
