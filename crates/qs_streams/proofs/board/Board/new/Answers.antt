use Rattle.qs_streams.proofs.BoardEdits.{no_board}
use Rattle.qs_streams.proofs.board.Board.new.Goals as goal

pub invariant_of-result : goal.invariant_of-result
invariant_of-result c = rw (c.new.ensures, c.new-2.ensures) (no_board 4294967295)
