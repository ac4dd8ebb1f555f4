use Rattle.std.proofs.Common.{arith}
use Rattle.qs_machine.specs.Asking.{kept_on}
use Rattle.qs_machine.specs.Sums.{tables_of}
use Rattle.qs_machine.proofs.TableEdits.{total_four}
use Rattle.qs_conn.proofs.Tasks.{total_lanes}
use Rattle.qs_conn.proofs.outbox.Outbox.kept_sum.Goals as goal

pub returns-then-kept : goal.returns-then-kept
returns-then-kept c =
    let all = total_four (λ s. kept_on s.lane) c.self.inside.types c.index-self-0.result c.index-self-1.result c.index-self-2.result c.index-self-3.result c.self.invariant.2 in
    rw (← c.self.view_is) (omega (arith, all, total_lanes kept_on (tables_of c.self.inside.types), c.kept.ensures.value, c.kept-2.ensures.value, c.kept-3.ensures.value, c.kept-4.ensures.value, c.if-kept.true))

pub returns : goal.returns
returns c =
    let all = total_four (λ s. kept_on s.lane) c.self.inside.types c.index-self-0.result c.index-self-1.result c.index-self-2.result c.index-self-3.result c.self.invariant.2 in
    rw (← c.self.view_is) (omega (arith, all, total_lanes kept_on (tables_of c.self.inside.types), c.kept.ensures.value, c.kept-2.ensures.value, c.kept-3.ensures.value, c.kept-4.ensures.value, c.if-kept.false))
