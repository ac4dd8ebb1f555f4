use Rattle.std.proofs.Common.{map}
use Rattle.qs_script.specs.Scripts.{said}
use Rattle.qs_script.proofs.ScriptLines.{fault_at}
use Rattle.qs_script.proofs.script.parse_script.Goals as goal

pub returns-in-Err-clause-fault : goal.returns-in-Err-clause-fault
returns-in-Err-clause-fault c =
    fault_at c.args.script.now (map said c.loop-rest.events.items) c.loop-rest.line c.loop-rest.rest.now c.split_line.result.0.now c.split_line.result.1.now c.in-Err.reason
    c.loop-rest.invariant.whole c.loop-rest.invariant.counted c.split_line.ensures.lines c.in-Err.ensures.said
