use Rattle.std.proofs.Common.{rules}
use Rattle.qs_c.proofs.Steps.{called}
use Rattle.qs_c.proofs.tokens.gvp_token_acked.Goals as goal

pub returns : goal.returns
returns c = called c.args.end.now.cell.value c.put.new.self.cell.value c.deref_mut.result.now c.acked-status.new.self _ _ _ (search rules) (search rules) c.acked-status.ensures
