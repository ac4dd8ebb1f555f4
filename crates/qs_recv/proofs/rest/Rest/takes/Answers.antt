use Rattle.std.proofs.Common.{true, false}
use Rattle.qs_recv.specs.Rest.{given}
use Rattle.qs_recv.proofs.RestLaws.{at_rest_taken, grown_at_rest}
use Rattle.qs_recv.proofs.rest.Rest.takes.Goals as goal

pub invariant_of-self : goal.invariant_of-self
invariant_of-self c =
    let s = c.self.inside in
    at_rest_taken s.windows s.read_count s.received_end c.in-Some.received_end s.limit c.args.offset (given s.is_sized s.size) (given s.is_reset s.reset) (given s.is_stopped s.stop) s.reader_done c.args.bytes.now true
    (rw (← c.self.view_is) at c.in-Some.ensures.ends) (rw (← c.self.view_is, c.if-fin.true) at c.requires.passed) c.self.invariant

pub invariant_of-self-else-fin : goal.invariant_of-self-else-fin
invariant_of-self-else-fin c =
    let s = c.self.inside in
    at_rest_taken s.windows s.read_count s.received_end c.in-Some.received_end s.limit c.args.offset (given s.is_sized s.size) (given s.is_reset s.reset) (given s.is_stopped s.stop) s.reader_done c.args.bytes.now false
    (rw (← c.self.view_is) at c.in-Some.ensures.ends) (rw (← c.self.view_is, c.if-fin.false) at c.requires.passed) c.self.invariant

pub returns-else-fin-clause-grown : goal.returns-else-fin-clause-grown
returns-else-fin-clause-grown c =
    let s = c.self.inside in
    λ _. rw (c.if-fin.false, ← c.self.view_is)
    (grown_at_rest s.windows s.read_count s.received_end c.in-Some.received_end s.limit c.args.offset (given s.is_sized s.size) (given s.is_reset s.reset) (given s.is_stopped s.stop) s.reader_done c.args.bytes.now false
    (rw (← c.self.view_is) at c.in-Some.ensures.ends) c.self.invariant)
