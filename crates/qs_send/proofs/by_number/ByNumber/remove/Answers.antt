use Rattle.std.proofs.Common.{rules}
use Rattle.qs_send.proofs.Outstanding.{get_none, map-remove, remove_nothing, rising-remove, not_ok}
use Rattle.qs_send.proofs.by_number.ByNumber.remove.Goals as goal

pub invariant_of-self : goal.invariant_of-self
invariant_of-self c = rw c.remove.ensures.items (search (rules, rising-remove))

pub returns-in-Ok : goal.returns-in-Ok
returns-in-Ok c = rw (c.remove.ensures.items, ← c.self.view_is) (search (rules, map-remove))

pub returns-in_default : goal.returns-in_default
returns-in_default c = search (rules, remove_nothing, get_none, not_ok)
