use Rattle.std.proofs.Common.{rules, subst}
use Rattle.qs_machine.specs.Alone.{TokenAckedStep}
use Rattle.qs_c.specs.Structs.{token_in}
use Rattle.qs_c.proofs.Steps.{same_end}
use Rattle.qs_c.proofs.thing.Thing.acked.Goals as goal

pub returns : goal.returns
returns c =
    let told = subst (λ t. TokenAckedStep c.self.inside.end t c.acked.result c.acked.new.self) c.token.ensures c.acked.ensures in
    (c.acked.result, c.of_token.ensures, same_end (λ e. TokenAckedStep e (token_in c.args.token.now) c.acked.result c.acked.new.self) c.self.inside.end c.args.self.now (search rules) told)
