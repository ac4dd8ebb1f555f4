use Rattle.std.proofs.Common.{◌∙◌, sym}
use Rattle.qs_streams.proofs.BoardEdits.{other_flag, same_flag, set_off, set_same}
use Rattle.qs_streams.proofs.board.Board.set.Goals as goal

pub returns-then-has-is_set : goal.returns-then-has-is_set
returns-then-has-is_set c = rw (← c.self.view_is, ← c.row_of-row.ensures.value) (set_same _ _ _ _ (sym c.has.ensures ∙ same_flag _ _ c.if-has-is_set.true))

pub turn_off-requires-clause-was : goal.turn_off-requires-clause-was
turn_off-requires-clause-was c = rw (← c.self.view_is) (sym c.has.ensures ∙ other_flag _ _ c.if-has-is_set.false c.if-is_set.false)

pub returns-then-is_set : goal.returns-then-is_set
returns-then-is_set c = rw (← c.row_of-row.ensures.value, c.if-is_set.true) c.turn_on.ensures

pub returns-else-is_set : goal.returns-else-is_set
returns-else-is_set c = rw (← c.row_of-row.ensures.value, c.if-is_set.false) (set_off _ _ _ _ c.turn_off.ensures (rw (← c.self.view_is) (sym c.has.ensures ∙ other_flag _ _ c.if-has-is_set.false c.if-is_set.false)))
