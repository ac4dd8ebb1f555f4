use Rattle.std.proofs.Common.{ap, ◌∙◌}
use Rattle.qs_text.specs.EventText.{script_text}
use Rattle.qs_cli.proofs.Answered.{answered_random}
use Rattle.qs_cli.proofs.scripts.run_random.Goals as goal

pub returns-in-Ok-script_text : goal.returns-in-Ok-script_text
returns-in-Ok-script_text g c =
    answered_random _ c.args.seed c.args.n c.in-Ok.events.items _ _ _ c.in-Ok.ensures.drawn (c.in-Ok-script_text.ensures ∙ ap script_text c.deref.ensures.value) c.show.ensures
