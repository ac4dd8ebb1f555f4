use Rattle.qs_ranges.proofs.Sets.{len-run_starts-with_range, len-run_starts-without_lowest}
use Rattle.qs_ranges.proofs.laws.runs_rise_and_fall_by_one.Goals as goal

pub returns : goal.returns
returns c = (len-run_starts-with_range, len-run_starts-without_lowest)
