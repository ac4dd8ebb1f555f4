use Rattle.qs_progress.proofs.Acknowledged.{acknowledged_goes_by_value}
use Rattle.qs_progress.proofs.laws.acknowledged_goes_by_value.Goals as goal

pub returns : goal.returns
returns c = acknowledged_goes_by_value
