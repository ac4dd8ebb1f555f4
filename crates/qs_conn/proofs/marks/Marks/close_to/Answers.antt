use Rattle.std.proofs.Common.{◌+◌}
use Rattle.qs_conn.proofs.Marked.{summed_taken, unmarked_taken, next_taken, short_taken}
use Rattle.qs_conn.proofs.marks.Marks.close_to.Goals as goal

pub invariant_of-self : goal.invariant_of-self
invariant_of-self c =
    let clear = rw (← c.self.view_is) at c.requires in
    let is = c.close_to.ensures in (
      summed_taken c.self.inside.marks c.close_to.new.self c.args.count clear is c.self.inside.words c.self.invariant.0,
      unmarked_taken c.self.inside.marks c.close_to.new.self c.args.count clear is (c.self.inside.last + 1) c.self.invariant.1,
      next_taken c.self.inside.marks c.close_to.new.self c.args.count clear is c.self.inside.first c.self.invariant.2,
      short_taken c.self.inside.marks c.close_to.new.self c.args.count clear is c.self.invariant.3,
    )
