-- Of public contracts.
-- What a cell of what was heard owns: where it holds a value, the box that contains it.
use Rattle.std.specs.Prelude.{Option, Some, None}
use base.Fml.{Fml, ftrue}
use denote.RawPtr.{Ptr}
use Rattle.std.specs.Box.Ownership.{box_owns}
use Rattle.std.specs.declared.alloc.Global.{Global}
use Rattle.std.specs.contracts.impls.GlobalAllocator.TheImpl.{ghosts}
use Rattle.qs_machine.specs.Heard.{Hearing}
use Rattle.qs_c.specs.contracts.listener.Listener.{the_row}

abbrev pub kept_heard : Global → Ptr → Option Hearing → Fml
kept_heard a p None = ftrue
kept_heard a p (Some x) = box_owns (ghosts.dealloc_token a) the_row p x
