use Rattle.qs_streams.proofs.BoardsOf.{flagged_at}
use Rattle.qs_streams.proofs.boards.Boards.set.Goals as goal

pub returns : goal.returns
returns c = rw (← c.self.view_is) (flagged_at c.self.inside.types c.args.stream c.type_of.result c.index_of.result c.index-self-type_of.result c.self.invariant c.type_of.ensures.value c.index_of.ensures.value _ _ _ c.set.ensures)
