use Rattle.qs_wire.proofs.Lengths.{control_short, length-stream}
use Rattle.qs_wire.proofs.laws.lengths.Goals as goal

pub returns-clause-control : goal.returns-clause-control
returns-clause-control c = control_short

pub returns-clause-of_stream : goal.returns-clause-of_stream
returns-clause-of_stream c = length-stream
