use Rattle.qs_world.proofs.Sides.{delivered}
use Rattle.qs_world.proofs.world.happening.happen_at.Goals as goal

pub returns-in-Deliver : goal.returns-in-Deliver
returns-in-Deliver c = rw c.in-Deliver.is (delivered _ _ _ _ _ _ _ c.requires.agreed c.deliver.ensures)
