use Rattle.qs_runs.proofs.Clauses.{step_agrees}
use Rattle.qs_runs.proofs.laws.repeats_spend_nothing.Goals as goal

pub returns : goal.returns
returns c = λ a b h v w x ok step. step_agrees a b h v ok x w step
