use Rattle.std.proofs.Common.{◌∙◌}
use Rattle.qs_world.proofs.LastAnswers.{last_fits}
use Rattle.qs_world.proofs.world.World.step.Goals as goal

pub last_answer-requires-clause-room : goal.last_answer-requires-clause-room
last_answer-requires-clause-room c =
    last_fits c.args.self.now c.happen.new.self c.args.event _ (c.in-Ok.ensures.exact ∙ c.room_of.ensures) c.in-Ok-happen.ensures.step
