use Rattle.std.proofs.Common.{sym, rules}
use Rattle.qs_conn.proofs.LaneEdits.{raised, none_raised}
use Rattle.qs_conn.proofs.DuePackets.{stays_of}
use Rattle.qs_conn.proofs.recv_lanes.RecvLanes.raise_all.Goals as goal

pub invariant_of-self : goal.invariant_of-self
invariant_of-self c = rw c.raise_marked.ensures.after (search (rules, raised))

pub raise_marked-requires-clause-few : goal.raise_marked-requires-clause-few
raise_marked-requires-clause-few c = c.self.invariant.few

pub returns-clause-marked : goal.returns-clause-marked
returns-clause-marked c = rw (← c.self.view_is) c.raise_marked.ensures.marked

pub returns-then-not-may_have-clause-after : goal.returns-then-not-may_have-clause-after
returns-then-not-may_have-clause-after c = rw (← c.self.view_is) (sym (none_raised c.self.inside.rising c.self.inside.halves.items c.self.invariant.settled (c.may_have.ensures c.if-not-may_have.true)))

pub returns-then-not-may_have-clause-marked : goal.returns-then-not-may_have-clause-marked
returns-then-not-may_have-clause-marked c = search (rules, stays_of)
