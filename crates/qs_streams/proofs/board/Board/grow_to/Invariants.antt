use Rattle.std.proofs.Common.{◌+◌, ◌-◌, length}
use Rattle.qs_streams.specs.Rows.{IsRoomier}
use Rattle.qs_streams.proofs.board.Board.grow_to.Given as goal

abbrev pub invariant-loop-self : goal.invariant-loop-self
invariant-loop-self l = IsRoomier l.fn.self l.self

abbrev pub decreases-loop-self : goal.decreases-loop-self
decreases-loop-self l = l.place + 1 - length l.self
