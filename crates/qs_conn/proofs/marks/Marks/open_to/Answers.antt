use Rattle.std.proofs.Common.{◌+◌, arith}
use Rattle.qs_conn.proofs.Marked.{short_opened, summed_open, next_open, unmarked_opened}
use Rattle.qs_conn.proofs.marks.Marks.open_to.Goals as goal

pub invariant_of-self-2 : goal.invariant_of-self-2
invariant_of-self-2 c = (
  summed_open c.open_to-2.result c.self.inside.marks c.self.inside.words c.open_to-2.new.self c.open_to.new.self c.args.count c.div_ceil.result c.self.invariant.0 (omega arith) c.in_ok-open_to.ensures.ok c.open_to-2.ensures.ok c.open_to-2.ensures.err,
  unmarked_opened c.open_to-2.result c.self.inside.marks c.open_to-2.new.self _ (c.self.inside.last + 1) c.open_to-2.ensures.ok c.open_to-2.ensures.err c.self.invariant.1,
  next_open c.open_to-2.result c.self.inside.marks c.open_to-2.new.self _ c.self.inside.first c.open_to-2.ensures.ok c.open_to-2.ensures.err c.self.invariant.2,
  short_opened c.open_to-2.result c.self.inside.marks c.open_to-2.new.self c.args.count c.requires c.self.invariant.3 c.open_to-2.ensures.ok c.open_to-2.ensures.err,
)
