use Rattle.qs_send.proofs.Outstanding.{full_less}
use Rattle.qs_send.proofs.gone.Gone.drop_group.Goals as goal

pub invariant_of-self : goal.invariant_of-self
invariant_of-self c = rw (c.pop_front.ensures.rest, c.drop_words.ensures) (full_less c.self.inside.full.items c.self.inside.words.items c.self.invariant)
