use Rattle.std.proofs.Common.{◌∙◌, sym}
use Rattle.qs_world.proofs.PlayedRuns.{played_none, play_ends}
use Rattle.qs_world.proofs.PlayedCopies.{copies_unmade}
use Rattle.qs_world.proofs.playing.play.Goals as goal

pub returns-in-Err : goal.returns-in-Err
returns-in-Err c = copies_unmade c.args.events.now c.args.a c.args.b c.in-Err.fault c.in-Err.ensures.made

pub returns-in-Ok-play_copies : goal.returns-in-Ok-play_copies
returns-in-Ok-play_copies c =
    let (copies, same, played) = c.in-Ok-play_copies.ensures.ok in (
      copies,
      same,
      play_ends c.args.a c.args.b copies c.play_copies.new.world c.into_report.result
          (played c.args.a c.args.b (played_none c.args.a c.args.b c.in-Ok.world (sym c.in-Ok.is ∙ c.new.ensures.made)))
          c.into_report.ensures.ok c.into_report.ensures.err,
    )

pub returns-in-Err-play_copies : goal.returns-in-Err-play_copies
returns-in-Err-play_copies c =
    c.in-Err-play_copies.ensures.err c.args.a c.args.b (played_none c.args.a c.args.b c.in-Ok.world (sym c.in-Ok.is ∙ c.new.ensures.made))
