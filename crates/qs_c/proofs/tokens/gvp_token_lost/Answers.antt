use Rattle.std.proofs.Common.{rules}
use Rattle.qs_c.proofs.Steps.{called}
use Rattle.qs_c.proofs.tokens.gvp_token_lost.Goals as goal

pub returns : goal.returns
returns c = called c.args.end.now.cell.value c.put.new.self.cell.value c.deref_mut.result.now c.lost-status.new.self _ _ _ (search rules) (search rules) c.lost-status.ensures
