use Rattle.std.proofs.Common.{sym, subst}
use Rattle.qs_wire.specs.Reading.{Reading, NoStreamNext}
use Rattle.qs_wire.proofs.Payloads.{none_next}
use Rattle.qs_wire.proofs.frames.Frames.next_stream.Goals as goal

pub returns-in-None-clause-other : goal.returns-in-None-clause-other
returns-in-None-clause-other c = rw (← c.self.view_is) (none_next c.self.inside.place c.self.inside.rest.now c.in-None.ensures.other)
