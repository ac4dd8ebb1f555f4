use Rattle.std.proofs.Common.{◌≡◌}
use Rattle.qs_send.proofs.records.Records.drop_from.Given as goal

abbrev pub invariant-loop-self : goal.invariant-loop-self
invariant-loop-self l = (l.self.pieces ≡ l.fn.self.pieces) × (l.self.room ≡ l.fn.self.room)

abbrev pub decreases-loop-self : goal.decreases-loop-self
decreases-loop-self l = l.self.slots
