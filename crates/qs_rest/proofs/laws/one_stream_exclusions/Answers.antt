use Rattle.qs_rest.proofs.ExclusionsOneStream.{one_stream_exclusions}
use Rattle.qs_rest.proofs.laws.one_stream_exclusions.Goals as goal

pub returns : goal.returns
returns c = one_stream_exclusions
