use Rattle.qs_streams.proofs.Flags.{turned, turned_word, turned_blocks, old_word}
use Rattle.qs_streams.proofs.rows.Rows.turn.Goals as goal

pub returns-clause-turned : goal.returns-clause-turned
returns-clause-turned c = rw (← c.self.view_is) (turned _ _ _ _ _ _ c.self.invariant (rw (← c.self.view_is) at c.requires.there) c.index_mut-block.ensures.value c.requires.row c.with_bit-is.ensures)

pub returns-clause-was : goal.returns-clause-was
returns-clause-was c = rw (← c.self.view_is) (old_word _ _ _ _ _ _ c.self.invariant (rw (← c.self.view_is) at c.requires.there) c.index_mut-block.ensures.value c.requires.row c.with_bit-is.ensures)

pub returns-clause-is : goal.returns-clause-is
returns-clause-is c = turned_word _ _ _ _ _ _ c.self.invariant (rw (← c.self.view_is) at c.requires.there) c.index_mut-block.ensures.value c.requires.row c.with_bit-is.ensures

pub invariant_of-self : goal.invariant_of-self
invariant_of-self c = turned_blocks _ _ _ _ _ _ c.self.invariant (rw (← c.self.view_is) at c.requires.there) c.index_mut-block.ensures.value c.requires.row c.with_bit-is.ensures
