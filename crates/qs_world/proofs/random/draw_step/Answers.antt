use Rattle.std.proofs.Common.{◌≡◌, rules}
use Rattle.qs_world.proofs.DrawnPackets.{not_missing, only_memory}
use Rattle.qs_world.specs.declared.report.PlayFault.TheVariants.{NoMemory}
use Rattle.qs_world.proofs.random.draw_step.Goals as goal

pub returns-in_err-happen-in-Ok-clause-err : goal.returns-in_err-happen-in-Ok-clause-err
returns-in_err-happen-in-Ok-clause-err c =
    let not = not_missing c.args.world.now.log _ _ _ _ _ _ c.made-made.ensures c.in-Ok.ensures.drawn in
    let is : c.in_err-happen-in-Ok.field-0.0 ≡ NoMemory = only_memory _ _ _ _ not c.in_err-happen-in-Ok.ensures.step in
    search (rules, is)
