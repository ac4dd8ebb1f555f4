use Rattle.qs_rest.proofs.OneStream.{every_answer_tells}
use Rattle.qs_rest.proofs.laws.answers_tell.Goals as goal

pub returns : goal.returns
returns c = every_answer_tells
