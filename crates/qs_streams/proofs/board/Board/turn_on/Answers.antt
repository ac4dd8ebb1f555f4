use Rattle.std.proofs.Common.{arith}
use Rattle.qs_streams.proofs.BoardEdits.{few_there, on_board, on_same, set_past, set_there}
use Rattle.qs_streams.proofs.board.Board.turn_on.Goals as goal

pub returns-then-place-len : goal.returns-then-place-len
returns-then-place-len c = rw (← c.self.view_is) (set_past _ _ _ _ (omega (arith, c.if-place-len.true, c.len.ensures.len)))

pub invariant_of-self : goal.invariant_of-self
invariant_of-self c = on_same _ _ _ _ _ c.self.invariant _ _ c.requires (omega (arith, c.if-place-len.false, c.len.ensures.len)) _ c.turn-was.ensures.turned _ c.turn-was.ensures.was c.if-was-ne0.true

pub returns-then-was-ne0 : goal.returns-then-was-ne0
returns-then-was-ne0 c = rw (← c.self.view_is) (set_there _ _ _ _ _ (omega (arith, c.if-place-len.false, c.len.ensures.len)) c.turn-was.ensures.turned)

pub overflow_add-self : goal.overflow_add-self
overflow_add-self c = omega (arith, few_there _ _ _ _ _ c.self.invariant c.args.row c.requires)

pub invariant_of-self-2 : goal.invariant_of-self-2
invariant_of-self-2 c = rw c.min.ensures (on_board _ _ _ _ _ c.self.invariant _ _ c.requires (omega (arith, c.if-place-len.false, c.len.ensures.len)) _ c.turn-was.ensures.turned _ c.turn-was.ensures.was c.if-was-ne0.false _ c.turn-top.ensures.turned _ c.with_bit-self-inside.ensures)

pub returns : goal.returns
returns c = rw (← c.self.view_is) (set_there _ _ _ _ _ (omega (arith, c.if-place-len.false, c.len.ensures.len)) c.turn-was.ensures.turned)
