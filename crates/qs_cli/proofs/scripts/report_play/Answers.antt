use Rattle.qs_cli.proofs.Answered.{events_answer, fault_answer}
use Rattle.qs_cli.proofs.scripts.report_play.Goals as goal

pub returns-in-Ok : goal.returns-in-Ok
returns-in-Ok g c = events_answer _ _ _ _ _ _ (c.in-Ok.ensures.events, c.in-Ok.ensures.fit) c.report_events.ensures

pub returns-in-Err : goal.returns-in-Err
returns-in-Err g c = fault_answer _ _ _ c.in-Err.fault _ _ c.in-Err.ensures.fault c.show_script_fault.ensures
