use Rattle.qs_ranges.proofs.Sets.{covers-iff}
use Rattle.qs_ranges.proofs.laws.covers_is_each_number.Goals as goal

pub returns : goal.returns
returns c = covers-iff
