use Rattle.qs_conn.proofs.Marked.{full_taken}
use Rattle.qs_conn.proofs.told_streams.ToldMarks.close_to.Goals as goal

pub invariant_of-self : goal.invariant_of-self
invariant_of-self c = (full_taken c.self.inside.marks c.close_to.new.self c.args.count (rw (← c.self.view_is) at c.requires) c.close_to.ensures c.self.inside.full c.self.invariant.0, c.self.invariant.1)
