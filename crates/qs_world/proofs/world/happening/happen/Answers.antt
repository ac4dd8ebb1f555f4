use Rattle.qs_world.proofs.world.happening.happen.Goals as goal

pub returns-in-A : goal.returns-in-A
returns-in-A c = rw c.in-A.is c.happen_at.ensures

pub returns-in-B : goal.returns-in-B
returns-in-B c = rw c.in-B.is c.happen_at-in-B.ensures
