use Rattle.std.proofs.Common.{rules, subst}
use Rattle.qs_machine.specs.Alone.{TokenLostStep}
use Rattle.qs_c.specs.Structs.{token_in}
use Rattle.qs_c.proofs.Steps.{same_end}
use Rattle.qs_c.proofs.thing.Thing.lost.Goals as goal

pub returns : goal.returns
returns c =
    let told = subst (λ t. TokenLostStep c.self.inside.end t c.lost.result c.lost.new.self) c.token.ensures c.lost.ensures in
    (c.lost.result, c.of_token.ensures, same_end (λ e. TokenLostStep e (token_in c.args.token.now) c.lost.result c.lost.new.self) c.self.inside.end c.args.self.now (search rules) told)
