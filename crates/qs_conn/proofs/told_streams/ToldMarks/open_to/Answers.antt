use Rattle.std.proofs.Common.{arith}
use Rattle.qs_conn.proofs.Marked.{full_open, below_opened}
use Rattle.qs_conn.proofs.told_streams.ToldMarks.open_to.Goals as goal

pub invariant_of-self-2 : goal.invariant_of-self-2
invariant_of-self-2 c = (
  full_open c.open_to-2.result c.self.inside.marks c.self.inside.full c.open_to-2.new.self c.open_to.new.self c.args.count c.div_ceil.result c.self.invariant.0 (omega arith) c.in_ok-open_to.ensures.ok c.open_to-2.ensures.ok c.open_to-2.ensures.err,
  rw c.in_ok-open_to.ensures.ok (below_opened c.self.inside.full _ c.self.inside.first c.self.invariant.1),
)
