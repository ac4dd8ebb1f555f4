use Rattle.qs_runs.proofs.Claims.{claims_tell_nothing}
use Rattle.qs_runs.proofs.laws.claims_tell_nothing.Goals as goal

pub returns : goal.returns
returns c = claims_tell_nothing
