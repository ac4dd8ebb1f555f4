use Rattle.std.proofs.Common.{refl}
use Rattle.qs_recv.proofs.RestLaws.{let_go_gone}
use Rattle.qs_recv.proofs.LawfulLaws.{sound_stop}
use Rattle.qs_recv.proofs.live.LiveHalf.stop.Goals as goal

pub invariant_of-self : goal.invariant_of-self
invariant_of-self g c = rw c.discard.ensures.after (sound_stop _ _ _ _ c.args.code c.requires c.self.invariant.0, let_go_gone _ _ refl c.discard.ensures.gone)
