use Rattle.qs_world.specs.Plays.{PlayOf}
use Rattle.qs_cli.proofs.Answered.{answered_by, no_setup}
use Rattle.qs_cli.proofs.scripts.report_events.Goals as goal

pub show_played-requires : goal.show_played-requires
show_played-requires g c = no_setup c.args.settings c.args.events.items c.play_all-played.result c.requires.range c.play_all-played.ensures

pub returns : goal.returns
returns g c =
    answered_by (PlayOf c.args.settings c.args.settings c.args.events.items) c.play_all-played.result c.show_played.result _ _ c.play_all-played.ensures
    c.show_played.ensures
