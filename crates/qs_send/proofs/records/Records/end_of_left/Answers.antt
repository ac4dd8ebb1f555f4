use Rattle.std.proofs.Common.{arith}
use Rattle.qs_send.specs.Records.{packets_of}
use Rattle.qs_send.proofs.Outstanding.{gone_below}
use Rattle.qs_send.proofs.records.Records.end_of_left.Goals as goal

pub returns-in-Some-clause-gone : goal.returns-in-Some-clause-gone
returns-in-Some-clause-gone c = rw (← c.self.view_is) (λ k ge lt.
    let inside = c.self.inside in
    let end = c.in-Some.ensures in
    let left = c.saturating_sub.ensures in
    gone_below inside.gone inside.first inside.base c.args.count c.end_of_left.result (packets_of inside.base inside.slots.items) c.self.invariant.2 c.self.invariant.1 (λ i le less. c.end_of_left.ensures.gone i le (omega (arith, end, less))) k
    (omega (arith, left, ge)) lt)
