use Rattle.qs_cli.specs.Runs.{IsScriptOf}
use Rattle.qs_cli.proofs.Answered.{carried_answer, fault_carried}
use Rattle.qs_cli.proofs.carrying.report_udp.Goals as goal

pub returns-in-Ok : goal.returns-in-Ok
returns-in-Ok g c =
    let is : IsScriptOf c.args.script.now c.deref.result.now = rw c.deref.ensures.value (c.in-Ok.ensures.events, c.in-Ok.ensures.fit) in
    carried_answer _ _ _ _ _ _ _ is c.report_carried.ensures

pub returns-in-Err : goal.returns-in-Err
returns-in-Err g c = fault_carried _ _ c.in-Err.fault _ _ _ _ c.in-Err.ensures.fault c.show_script_fault.ensures
