use Rattle.std.proofs.Common.{rules}
use Rattle.qs_conn.proofs.Marked.{index_below, flags_set, stay_flags}
use Rattle.qs_conn.proofs.bits.Bits.set.Goals as goal

pub index-requires : goal.index-requires
index-requires c = search (rules, index_below)

pub index_mut-requires : goal.index_mut-requires
index_mut-requires c = search (rules, index_below)

pub invariant_of-self : goal.invariant_of-self
invariant_of-self c = search (rules, index_below, stay_flags)

pub returns : goal.returns
returns c = rw (← c.self.view_is) (search (rules, index_below, flags_set))
