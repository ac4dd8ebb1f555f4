use Rattle.qs_progress.proofs.ExclusionsLaps.{lap_exclusions}
use Rattle.qs_progress.proofs.laws.lap_exclusions.Goals as goal

pub returns : goal.returns
returns c = lap_exclusions
