use Rattle.qs_cli.proofs.AnsweredDrained.{drained_report, drained_none}
use Rattle.qs_cli.proofs.draining.drained_events.Goals as goal

pub returns-in-Ok : goal.returns-in-Ok
returns-in-Ok g c =
    drained_report _ c.show_drained-status.result c.args.settings c.args.events.items c.in-Ok.report c.in-Ok.drained _ _ c.in-Ok.ensures c.show_drained-status.ensures c.written.ensures

pub returns-in-Err-NoSuchPacket : goal.returns-in-Err-NoSuchPacket
returns-in-Err-NoSuchPacket g c =
    drained_none c.show_missing.result c.args.settings c.args.events.items c.in-Err-NoSuchPacket.event _ _
    (rw c.in-Err-NoSuchPacket.field-0-is at c.in-Err-NoSuchPacket.ensures) c.show_missing.ensures
