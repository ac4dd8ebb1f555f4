use Rattle.std.proofs.Common.{◌∙◌, sym}
use Rattle.qs_world.proofs.PlayedRuns.{played_none, play_ends}
use Rattle.qs_world.proofs.playing.play_all.Goals as goal

pub returns-in-Ok-play_each : goal.returns-in-Ok-play_each
returns-in-Ok-play_each c =
    play_ends c.args.a c.args.b c.args.events.items c.play_each.new.world c.into_report.result
    (c.in-Ok-play_each.ensures.ok c.args.a c.args.b (played_none c.args.a c.args.b c.in-Ok.world (sym c.in-Ok.is ∙ c.new.ensures.made)))
    c.into_report.ensures.ok c.into_report.ensures.err

pub returns-in-Err-play_each : goal.returns-in-Err-play_each
returns-in-Err-play_each c =
    c.in-Err-play_each.ensures.err c.args.a c.args.b (played_none c.args.a c.args.b c.in-Ok.world (sym c.in-Ok.is ∙ c.new.ensures.made))
