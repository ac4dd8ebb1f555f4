use Rattle.qs_machine.proofs.LateStops.{no_news_is_lost}
use Rattle.qs_machine.proofs.laws.no_news_is_lost.Goals as goal

pub returns : goal.returns
returns c = no_news_is_lost
