use Rattle.qs_runs.proofs.Shown.{every_run_agrees}
use Rattle.qs_runs.proofs.laws.every_run_agrees.Goals as goal

pub returns : goal.returns
returns c = every_run_agrees
