use Rattle.qs_cli.proofs.Carried.{shown_world}
use Rattle.qs_cli.proofs.carrying.show_world.Goals as goal

pub returns-in-Ok : goal.returns-in-Ok
returns-in-Ok g c = shown_world _ c.show_report-status.result c.args.world.now c.in-Ok.report c.args.failures c.args.strangers _ _ c.in-Ok.ensures.ok c.show_report-status.ensures c.written.ensures
