use Rattle.std.proofs.Common.{◌≡◌, ◌-◌, min, length, rules}
use Rattle.qs_send.proofs.Outstanding.{greatest_below, nothing_below}
use Rattle.qs_send.proofs.records.Records.below.Goals as goal

counted : (c : goal.After-last_of) → c.min.result ≡ min (c.args.number - c.self.inside.base) (length c.self.inside.slots.items)
counted c = search (rules)

pub returns-clause-found : goal.returns-clause-found
returns-clause-found c = rw (← c.self.view_is) (search (rules, greatest_below, counted))

pub returns-clause-none : goal.returns-clause-none
returns-clause-none c = rw (← c.self.view_is) (search (rules, nothing_below, counted))
