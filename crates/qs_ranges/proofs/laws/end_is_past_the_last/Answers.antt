use Rattle.qs_ranges.proofs.Sets.{below-end_of, end_of-member}
use Rattle.qs_ranges.proofs.laws.end_is_past_the_last.Goals as goal

pub returns : goal.returns
returns c = λ s. (below-end_of s, end_of-member s)
