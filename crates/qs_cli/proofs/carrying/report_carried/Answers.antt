use Rattle.qs_cli.proofs.Carried.{carried_none}
use Rattle.qs_cli.proofs.carrying.report_carried.Goals as goal

pub carry_and_show-answer-requires-clause-begun : goal.carry_and_show-answer-requires-clause-begun
carry_and_show-answer-requires-clause-begun g c =
    carried_none (g.Wi.Wire.failed c.args.wire.now) c.in-Ok.world (rw (c.standard_settings.ensures, c.standard_settings-2.ensures) at c.in-Ok.ensures.made)
