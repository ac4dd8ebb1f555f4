use Rattle.qs_cli.proofs.AnsweredDrained.{drained_answer, fault_drained}
use Rattle.qs_cli.proofs.draining.report_drained.Goals as goal

pub returns-in-Ok : goal.returns-in-Ok
returns-in-Ok g c = drained_answer _ _ _ _ _ _ (c.in-Ok.ensures.events, c.in-Ok.ensures.fit) c.drained_events.ensures

pub returns-in-Err : goal.returns-in-Err
returns-in-Err g c = fault_drained _ _ _ c.in-Err.fault _ _ c.in-Err.ensures.fault c.show_script_fault.ensures
