use Rattle.std.specs.FinSet as set
use Rattle.std.specs.Ordering.{nat_cmp}
use Rattle.qs_send.proofs.offsets.Offsets.due_run.Goals as goal

pub returns-in-None-clause-none : goal.returns-in-None-clause-none
returns-in-None-clause-none c = rw (← c.self.view_is, c.in-None.is) (λ m _. set.contains-empty nat_cmp m)
