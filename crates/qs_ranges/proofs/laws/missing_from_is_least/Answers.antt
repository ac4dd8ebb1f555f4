use Rattle.qs_ranges.proofs.Sets.{missing_from-is}
use Rattle.qs_ranges.proofs.laws.missing_from_is_least.Goals as goal

pub returns : goal.returns
returns c = missing_from-is
