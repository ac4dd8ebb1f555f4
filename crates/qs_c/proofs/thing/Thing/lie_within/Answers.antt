use Rattle.std.proofs.Common.{rules}
use Rattle.qs_c.proofs.Noting.{few}
use Rattle.qs_c.proofs.thing.Thing.lie_within.Goals as goal

pub returns-in-Some-checked_add-clause-few : goal.returns-in-Some-checked_add-clause-few
returns-in-Some-checked_add-clause-few c =
    few c.self.inside.end c.args.self.now c.args.room c.in-Some.least c.in-Some-checked_add.past c.next_outstanding.result c.next_outstanding-in-Some-checked_add.result c.is_none.result
    (search rules) (search rules) (search rules) (search rules) (search rules) (search rules)
