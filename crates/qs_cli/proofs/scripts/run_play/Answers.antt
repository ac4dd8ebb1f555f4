use Rattle.qs_cli.proofs.scripts.run_play.Goals as goal

pub returns : goal.returns
returns g c = rw c.standard_settings.ensures at c.run_play_with.ensures
