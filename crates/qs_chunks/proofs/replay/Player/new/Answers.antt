use Rattle.qs_chunks.proofs.ReplayLaws.{played_new}
use Rattle.qs_chunks.proofs.replay.Player.new.Goals as goal

pub invariant_of-result : goal.invariant_of-result
invariant_of-result g c = rw c.new.ensures.empty (played_new c.args.window c.requires.small)
