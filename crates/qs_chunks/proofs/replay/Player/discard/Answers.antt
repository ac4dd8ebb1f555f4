use Rattle.qs_chunks.proofs.ReplayLaws.{played_discard}
use Rattle.qs_chunks.proofs.replay.Player.discard.Goals as goal

pub invariant_of-self : goal.invariant_of-self
invariant_of-self g c = rw c.discard.ensures.after (played_discard _ _ _ _ c.self.invariant)
