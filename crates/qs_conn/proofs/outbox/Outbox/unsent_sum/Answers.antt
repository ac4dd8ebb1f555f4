use Rattle.std.proofs.Common.{arith}
use Rattle.qs_machine.specs.Outgoing.{lanes_of}
use Rattle.qs_machine.specs.Sums.{tables_of}
use Rattle.qs_machine.proofs.TableEdits.{total_four}
use Rattle.qs_conn.specs.Promised.{promised_on}
use Rattle.qs_conn.proofs.Tasks.{total_lanes, promised_parts}
use Rattle.qs_conn.proofs.outbox.Outbox.unsent_sum.Goals as goal

pub overflow_sub-unsent : goal.overflow_sub-unsent
overflow_sub-unsent c =
    let all = total_four (λ s. promised_on s.lane) c.self.inside.types c.index-self-0.result c.index-self-1.result c.index-self-2.result c.index-self-3.result c.self.invariant.2 in
    omega (arith, all, total_lanes promised_on (tables_of c.self.inside.types), promised_parts (lanes_of (tables_of c.self.inside.types)), c.self.invariant.0.sum, c.promised.ensures.value, c.promised-2.ensures.value, c.promised-3.ensures.value, c.promised-4.ensures.value)

pub returns-then-unsent : goal.returns-then-unsent
returns-then-unsent c =
    let all = total_four (λ s. promised_on s.lane) c.self.inside.types c.index-self-0.result c.index-self-1.result c.index-self-2.result c.index-self-3.result c.self.invariant.2 in
    rw (← c.self.view_is) (omega (arith, all, total_lanes promised_on (tables_of c.self.inside.types), promised_parts (lanes_of (tables_of c.self.inside.types)), c.self.invariant.0.sum, c.promised.ensures.value, c.promised-2.ensures.value, c.promised-3.ensures.value, c.promised-4.ensures.value, c.if-unsent.true))

pub returns : goal.returns
returns c =
    let all = total_four (λ s. promised_on s.lane) c.self.inside.types c.index-self-0.result c.index-self-1.result c.index-self-2.result c.index-self-3.result c.self.invariant.2 in
    rw (← c.self.view_is) (omega (arith, all, total_lanes promised_on (tables_of c.self.inside.types), promised_parts (lanes_of (tables_of c.self.inside.types)), c.self.invariant.0.sum, c.promised.ensures.value, c.promised-2.ensures.value, c.promised-3.ensures.value, c.promised-4.ensures.value, c.if-unsent.false))
