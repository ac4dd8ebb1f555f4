use Rattle.qs_streams.proofs.BoardEdits.{none_any}
use Rattle.qs_streams.proofs.board.Board.some.Goals as goal

pub returns : goal.returns
returns c = rw (← c.self.view_is) (none_any _ _ _ _ _ c.self.invariant)
