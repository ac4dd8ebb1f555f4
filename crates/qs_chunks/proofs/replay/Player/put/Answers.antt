use Rattle.qs_chunks.proofs.ReplayLaws.{played_either}
use Rattle.qs_chunks.proofs.replay.Player.put.Goals as goal

pub invariant_of-self : goal.invariant_of-self
invariant_of-self g c = played_either c.put.result _ _ _ _ _ c.args.offset c.args.bytes.now c.requires.in_range c.put.ensures.ok c.put.ensures.err c.self.invariant
