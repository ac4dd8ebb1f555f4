-- Of public contracts.
-- What becomes of a cell whose value is lent.
use Rattle.std.specs.Prelude.{Some}
use base.Fml.{Fml}
use denote.Ref.{MutBor}
use denote.Follow.{follows}
use Rattle.qs_machine.specs.Ends.{End}
use Rattle.qs_c.specs.declared.cell.Cell.{Cell}
use Rattle.qs_c.specs.contracts.cell.Cell as cell
use Rattle.qs_c.specs.contracts.thing.Thing as thing

-- the cell after its value was written
abbrev pub holding : Cell → End → Cell
holding c x = record { at = c.at; alloc = c.alloc; value = Some x }

-- once the borrow ends, the cell holds the last value that was written through it
abbrev pub cell_follows : MutBor Cell → MutBor End → Fml
cell_follows c x = follows cell.the_row thing.the_row c.ghost_name x.ghost_name (holding c.now)
