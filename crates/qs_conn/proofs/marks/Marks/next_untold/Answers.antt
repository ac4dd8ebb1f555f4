use Rattle.std.proofs.Common.{◌+◌, ◌-◌, ◌/◌, None, arith, refl}
use Rattle.qs_conn.specs.Marks.{both, untold}
use Rattle.qs_conn.proofs.Marked.{next_stream, none_left, none_past_first as none_past, left_from}
use Rattle.qs_conn.proofs.marks.Marks.next_untold.Goals as goal

pub returns-in_err-first-clause-least : goal.returns-in_err-first-clause-least
returns-in_err-first-clause-least c =
    rw (← c.self.view_is, c.from_residual.ensures)
    (next_stream (untold (both c.self.inside.marks c.args.others.now) c.args.told.now) c.args.stream_type c.args.from ((c.args.from + 3 - c.args.stream_type) / 4) c.requires.stream_type refl None (none_left c.self.inside.marks c.args.others.now c.args.told.now ((c.args.from + 3 - c.args.stream_type) / 4) (rw c.in_err-first.was at c.self.invariant.2)))

pub returns-then-self-below-clause-least : goal.returns-then-self-below-clause-least
returns-then-self-below-clause-least c =
    rw (← c.self.view_is)
    (next_stream (untold (both c.self.inside.marks c.args.others.now) c.args.told.now) c.args.stream_type c.args.from ((c.args.from + 3 - c.args.stream_type) / 4) c.requires.stream_type refl None (none_past c.self.inside.marks c.args.others.now c.args.told.now ((c.args.from + 3 - c.args.stream_type) / 4) (c.self.inside.last + 1) c.first-below.result (omega (arith, c.if-self-below.true)) c.self.invariant.1 c.first-below.ensures))

pub returns-clause-least : goal.returns-clause-least
returns-clause-least c =
    rw (← c.self.view_is, c.numbered.ensures.value)
    (next_stream (untold (both c.self.inside.marks c.args.others.now) c.args.told.now) c.args.stream_type c.args.from c.index_from.result c.requires.stream_type c.index_from.ensures c.least_untold.result (left_from c.self.inside.marks c.args.others.now c.args.told.now c.index_from.result c.in_ok-first.first c.first-below.result c.max-start.result c.least_untold.result (omega arith) (rw c.in_ok-first.was at c.self.invariant.2) c.first-below.ensures (rw (← c.self.view_is) at c.least_untold.ensures.next)))
