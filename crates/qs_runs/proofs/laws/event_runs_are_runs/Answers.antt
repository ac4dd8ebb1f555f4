use Rattle.qs_runs.proofs.Runs.{event_runs}
use Rattle.qs_runs.proofs.laws.event_runs_are_runs.Goals as goal

pub returns : goal.returns
returns c = event_runs
