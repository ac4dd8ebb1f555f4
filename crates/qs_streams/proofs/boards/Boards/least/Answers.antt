use Rattle.qs_streams.proofs.Leasts.{flagged_four}
use Rattle.qs_streams.proofs.boards.Boards.least.Goals as goal

pub returns : goal.returns
returns c = rw (c.least_stream.ensures, ← c.self.view_is) (flagged_four c.self.inside.types _ _ _ _ _ _ _ _ _ _ c.self.invariant c.next_of.ensures.least c.next_of-2.ensures.least c.next_of-3.ensures.least c.next_of-4.ensures.least)
