use Rattle.std.proofs.Common.{rules, ◌≡◌, true}
use Rattle.qs_c.specs.Statuses.{is_small}
use Rattle.qs_c.proofs.Steps.{tested, same_write}
use Rattle.qs_c.proofs.thing.Thing.write.Goals as goal

pub returns : goal.returns
returns c =
    let small : is_small c.args.stream ≡ true = search rules in
    tested (is_small c.args.stream) _ _ _ _ small (c.write.result, c.of_count.ensures, same_write _ _ _ _ _ _ _ (search rules) (search rules) c.write.ensures)
