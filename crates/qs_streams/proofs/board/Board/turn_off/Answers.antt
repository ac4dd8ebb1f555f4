use Rattle.std.proofs.Common.{arith}
use Rattle.qs_streams.proofs.Flags.{has_within}
use Rattle.qs_streams.proofs.BoardEdits.{off_board, off_count, off_lower, off_same}
use Rattle.qs_streams.proofs.board.Board.turn_off.Goals as goal

pub invariant_of-self : goal.invariant_of-self
invariant_of-self c = off_same _ _ _ _ _ c.self.invariant _ _ c.requires.row (has_within _ _ _ (rw (← c.self.view_is) at c.requires.was)) _ (rw (← c.self.view_is) at c.requires.was) c.turn-was.ensures.turned _ c.turn-was.ensures.is c.if-is-ne0.true

pub overflow_sub-count : goal.overflow_sub-count
overflow_sub-count c = off_count _ _ _ _ _ c.self.invariant _ _ c.requires.row (has_within _ _ _ (rw (← c.self.view_is) at c.requires.was)) _ (rw (← c.self.view_is) at c.requires.was) c.turn-was.ensures.turned _ c.turn-was.ensures.is c.if-is-ne0.false _ c.turn-top.ensures.turned

pub invariant_of-self-then-low-place : goal.invariant_of-self-then-low-place
invariant_of-self-then-low-place c = off_lower _ _ _ _ _ c.self.invariant _ _ c.requires.row (has_within _ _ _ (rw (← c.self.view_is) at c.requires.was)) _ (rw (← c.self.view_is) at c.requires.was) c.turn-was.ensures.turned _ c.turn-was.ensures.is c.if-is-ne0.false _ c.turn-top.ensures.turned _ c.with_bit-self-inside.ensures c.if-low-place.true _ c.next_low.ensures

pub invariant_of-self-else-low-place : goal.invariant_of-self-else-low-place
invariant_of-self-else-low-place c = off_board _ _ _ _ _ c.self.invariant _ _ c.requires.row (has_within _ _ _ (rw (← c.self.view_is) at c.requires.was)) _ (rw (← c.self.view_is) at c.requires.was) c.turn-was.ensures.turned _ c.turn-was.ensures.is c.if-is-ne0.false _ c.turn-top.ensures.turned _ c.with_bit-self-inside.ensures

pub turn-was-requires-clause-there : goal.turn-was-requires-clause-there
turn-was-requires-clause-there c = has_within _ _ _ (rw (← c.self.view_is) at c.requires.was)

pub turn-top-requires-clause-there : goal.turn-top-requires-clause-there
turn-top-requires-clause-there c = omega (arith, c.self.invariant.room, has_within _ _ _ (rw (← c.self.view_is) at c.requires.was))
