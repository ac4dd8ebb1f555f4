use Rattle.qs_rest.proofs.FirstLimits.{first_limits_stay, taken_in_is_told, event_runs_tell}
use Rattle.qs_rest.proofs.laws.first_limits_stay.Goals as goal

pub returns-clause-stay : goal.returns-clause-stay
returns-clause-stay c = first_limits_stay

pub returns-clause-taken_in : goal.returns-clause-taken_in
returns-clause-taken_in c = taken_in_is_told

pub returns-clause-events : goal.returns-clause-events
returns-clause-events c = event_runs_tell
