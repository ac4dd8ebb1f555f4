use Rattle.qs_world.proofs.Draining.{some_least}
use Rattle.qs_world.proofs.world.draining.has_no_news.Goals as goal

pub returns-in-Some : goal.returns-in-Some
returns-in-Some c = some_least _ _ c.in-Some.ensures
