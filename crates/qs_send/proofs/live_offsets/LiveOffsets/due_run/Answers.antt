use Rattle.std.proofs.Common.{arith, rules}
use Rattle.qs_send.proofs.Runs.{NoneDueBelow, none_due_all, none_due_past, run_alone, run_until}
use Rattle.qs_ranges.specs.Numbers.{NumberSet}
use Rattle.qs_send.proofs.live_offsets.LiveOffsets.due_run.Goals as goal

none_below : (noted acked : NumberSet) → NoneDueBelow noted acked 0
none_below noted acked k lt = absurd (omega (arith, lt))

pub returns-in_default-clause-none : goal.returns-in_default-clause-none
returns-in_default-clause-none c = rw (← c.self.view_is) (none_due_all _ _ 0 c.in_default.ensures.none (none_below _ _))

pub returns-in-None-clause-found : goal.returns-in-None-clause-found
returns-in-None-clause-found c = rw (← c.self.view_is) (search (rules, run_alone, none_below, c.in-Some.ensures.found, c.in-None.ensures.none))

pub returns-in-Some-run_from-clause-found : goal.returns-in-Some-run_from-clause-found
returns-in-Some-run_from-clause-found c =
    rw (← c.self.view_is, c.min.ensures)
    (run_until _ _ 0 (c.in-Some.start, c.in-Some.end) (c.in-Some-run_from.next, c.in-Some-run_from.field-0-1) c.in-Some.ensures.found c.in-Some-run_from.ensures.found c.if-start-next.true (none_below _ _))

pub due_run_from-requires : goal.due_run_from-requires
due_run_from-requires c = rw (← c.self.view_is) (search (rules, none_due_past, none_below, c.in-Some.ensures.found, c.in-Some-run_from.ensures.found, c.if-start-next.false))
