use Rattle.qs_rest.proofs.Runs.{every_run_keeps}
use Rattle.qs_rest.proofs.laws.every_run_keeps.Goals as goal

pub returns : goal.returns
returns c = every_run_keeps
