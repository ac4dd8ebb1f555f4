-- Of public contracts.
-- What a cell owns: where it holds a value, the box that contains it.
use Rattle.std.specs.Prelude.{Option, Some, None}
use base.Fml.{Fml, ftrue}
use denote.RawPtr.{Ptr}
use Rattle.std.specs.Box.Ownership.{box_owns}
use Rattle.std.specs.declared.alloc.Global.{Global}
use Rattle.std.specs.contracts.impls.GlobalAllocator.TheImpl.{ghosts}
use Rattle.qs_machine.specs.Ends.{End}
use Rattle.qs_c.specs.contracts.thing.Thing.{the_row}

abbrev pub kept : Global → Ptr → Option End → Fml
kept a p None = ftrue
kept a p (Some x) = box_owns (ghosts.dealloc_token a) the_row p x
