use Rattle.std.proofs.Common.{refl}
use Rattle.qs_world.proofs.Draining.{is_readable_next}
use Rattle.qs_world.proofs.world.World.next_read.Goals as goal

pub returns-in-Some-clause-plain : goal.returns-in-Some-clause-plain
returns-in-Some-clause-plain c = ((_, is_readable_next _ _ _ _ c.end.ensures c.in-Some.ensures, refl), refl, λ missing. missing)
