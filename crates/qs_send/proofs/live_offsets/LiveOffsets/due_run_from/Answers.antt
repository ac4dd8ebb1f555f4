use Rattle.std.proofs.Common.{rules}
use Rattle.qs_send.proofs.Runs.{none_due_all, none_due_past, run_alone, run_until}
use Rattle.qs_send.proofs.live_offsets.LiveOffsets.due_run_from.Goals as goal

pub returns-in-None-clause-found : goal.returns-in-None-clause-found
returns-in-None-clause-found c = rw (← c.self.view_is) (search (rules, run_alone, c.in-Some.ensures.found, c.in-None.ensures.none, c.loop-start.invariant))

pub returns-in-Some-run_from-clause-found : goal.returns-in-Some-run_from-clause-found
returns-in-Some-run_from-clause-found c =
    rw (← c.self.view_is, c.min.ensures)
    (run_until _ _ c.loop-start.from (c.in-Some.start, c.in-Some.end) (c.in-Some-run_from.next, c.in-Some-run_from.field-0-1) c.in-Some.ensures.found c.in-Some-run_from.ensures.found c.if-start-next.true c.loop-start.invariant)

pub loop-start-preserved : goal.loop-start-preserved
loop-start-preserved c = search (rules, none_due_past, c.in-Some.ensures.found, c.in-Some-run_from.ensures.found, c.if-start-next.false, c.loop-start.invariant)

pub returns-clause-none : goal.returns-clause-none
returns-clause-none c = rw (← c.self.view_is) (none_due_all _ _ c.loop-start.from c.in_default.ensures.none c.loop-start.invariant)
