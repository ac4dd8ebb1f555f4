use Rattle.qs_world.specs.Copies.{PlayOfCopies}
use Rattle.qs_cli.specs.Runs.{AnswersEvents}
use Rattle.qs_cli.proofs.Answered.{answered_by, ends_as, no_setup}
use Rattle.qs_cli.proofs.scripts.run_events.Goals as goal

pub show_played-requires : goal.show_played-requires
show_played-requires g c =
    let (copies, same, played) = c.play-played.ensures in
    no_setup c.args.settings copies c.play-played.result c.requires.range played

pub returns : goal.returns
returns g c =
    let Played = PlayOfCopies c.args.settings c.args.settings c.args.events.now in
    let old = g.W.Write.contents c.args.out.now in
    let new = g.W.Write.contents c.show_played.new.out in
    ends_as (λ answer. AnswersEvents Played answer old new) c.show_played.result _ (λ none. none) c.status_of.ensures
    (answered_by Played c.play-played.result c.show_played.result old new c.play-played.ensures c.show_played.ensures)
