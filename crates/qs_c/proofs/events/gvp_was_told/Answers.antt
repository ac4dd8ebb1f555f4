use Rattle.std.proofs.Common.{rules, refl}
use Rattle.qs_c.proofs.Steps.{asked}
use Rattle.qs_c.proofs.events.gvp_was_told.Goals as goal

pub returns : goal.returns
returns c = asked c.args.end.now.cell.value c.put.new.self.cell.value c.deref.result.now c.deref.result.now _ _ _ (search rules) (search rules) refl c.was_told-status.ensures
