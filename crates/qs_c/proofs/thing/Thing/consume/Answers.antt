use Rattle.std.proofs.Common.{rules, ◌≡◌, true}
use Rattle.qs_machine.specs.Owner.{ConsumeStep}
use Rattle.qs_c.specs.Statuses.{is_small}
use Rattle.qs_c.proofs.Steps.{tested, same_step}
use Rattle.qs_c.proofs.thing.Thing.consume.Goals as goal

pub returns : goal.returns
returns c =
    let small : is_small c.args.stream ≡ true = search rules in
    tested (is_small c.args.stream) _ _ _ _ small (c.consume.result, c.of_consumed.ensures, same_step (λ e n. ConsumeStep e n c.args.most c.consume.result c.consume.new.self) c.self.inside.end c.args.self.now c.in-Some.id c.args.stream (search rules) (search rules) c.consume.ensures.step)
