use Rattle.qs_rest.proofs.OneStream.{every_stream_rests}
use Rattle.qs_rest.proofs.laws.every_stream_rests.Goals as goal

pub returns : goal.returns
returns c = every_stream_rests
