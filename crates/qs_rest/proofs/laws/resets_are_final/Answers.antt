use Rattle.qs_rest.proofs.Streams.{each_reset_final}
use Rattle.qs_rest.proofs.laws.resets_are_final.Goals as goal

pub returns : goal.returns
returns c = each_reset_final
