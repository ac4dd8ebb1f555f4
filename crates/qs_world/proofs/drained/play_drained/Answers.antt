use Rattle.std.proofs.Common.{◌∙◌, sym}
use Rattle.qs_world.proofs.Draining.{drained_play}
use Rattle.qs_world.proofs.PlayedRuns.{played_none}
use Rattle.qs_world.proofs.drained.play_drained.Goals as goal

pub returns-in-Ok-play_each : goal.returns-in-Ok-play_each
returns-in-Ok-play_each c =
    drained_play c.args.a c.args.b c.args.events.items c.args.most c.play_each.new.world c.drain_and_report.result
    (c.in-Ok-play_each.ensures.ok c.args.a c.args.b (played_none c.args.a c.args.b c.in-Ok.world (sym c.in-Ok.is ∙ c.new.ensures.made)))
    c.drain_and_report.ensures

pub returns-in-Err-play_each : goal.returns-in-Err-play_each
returns-in-Err-play_each c =
    c.in-Err-play_each.ensures.err c.args.a c.args.b (played_none c.args.a c.args.b c.in-Ok.world (sym c.in-Ok.is ∙ c.new.ensures.made))
