use Rattle.qs_runs.proofs.Clauses.{each_step, pieces_are_written}
use Rattle.qs_runs.proofs.laws.pieces_are_written.Goals as goal

pub returns : goal.returns
returns c = each_step pieces_are_written
