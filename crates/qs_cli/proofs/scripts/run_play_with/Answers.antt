use Rattle.qs_cli.specs.Runs.{AnswersPlay}
use Rattle.qs_cli.proofs.Answered.{ends_as}
use Rattle.qs_cli.proofs.scripts.run_play_with.Goals as goal

pub returns : goal.returns
returns g c =
    ends_as (λ answer. AnswersPlay answer c.args.settings c.args.script.now (g.W.Write.contents c.args.out.now) (g.W.Write.contents c.report_play.new.out))
    c.report_play.result _ (λ none. none) c.status_of.ensures c.report_play.ensures
