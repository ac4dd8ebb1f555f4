use Rattle.std.proofs.Common.{arith}
use Rattle.qs_cli.proofs.Carried.{as_handed_in}
use Rattle.qs_cli.proofs.carrying.carry_event.Goals as goal

pub returns-in-Ok : goal.returns-in-Ok
returns-in-Ok g c = record { step = as_handed_in _ _ _ _ _ _ c.in_default.not-Deliver c.in-Ok.ensures c.step.ensures; rise = omega arith }
