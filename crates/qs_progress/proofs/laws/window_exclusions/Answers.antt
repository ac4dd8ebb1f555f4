use Rattle.qs_progress.proofs.ExclusionsWindows.{window_exclusions}
use Rattle.qs_progress.proofs.laws.window_exclusions.Goals as goal

pub returns : goal.returns
returns c = window_exclusions
