use Rattle.std.proofs.Common.{rules}
use Rattle.qs_c.proofs.Steps.{called}
use Rattle.qs_c.proofs.consuming.gvp_consume.Goals as goal

pub returns : goal.returns
returns c = called c.args.end.now.cell.value c.put.new.self.cell.value c.deref_mut.result.now c.consume-status.new.self _ _ _ (search rules) (search rules) c.consume-status.ensures
