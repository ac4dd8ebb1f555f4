use Rattle.qs_runs.proofs.Runs.{start}
use Rattle.qs_runs.proofs.laws.new_ends_meet_invariant.Goals as goal

pub returns : goal.returns
returns c = start
