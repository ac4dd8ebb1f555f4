use Rattle.qs_runs.proofs.Runs.{step_keeps}
use Rattle.qs_runs.proofs.laws.steps_keep_invariant.Goals as goal

pub returns : goal.returns
returns c = step_keeps
