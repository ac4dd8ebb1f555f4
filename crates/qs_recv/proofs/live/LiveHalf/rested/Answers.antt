use Rattle.std.proofs.Common.{sym, subst, ◌∙◌}
use Rattle.qs_recv.specs.Rest.{IsAtRest}
use Rattle.qs_recv.proofs.RestLaws.{rested_is, done_at_rest}
use Rattle.qs_recv.proofs.live.LiveHalf.rested.Goals as goal

pub invariant_of-result : goal.invariant_of-result
invariant_of-result g c =
    let s = c.self.inside in
    let done = rw (← c.self.view_is) at (sym c.is_done.ensures ∙ c.if-not-is_done.false) in
    (subst (λ l. IsAtRest l s.read_count s.received_end)
    (sym (rested_is _ s.windows.widest s.read_count s.received_end _ done (rw c.received.ensures at (c.covers.ensures.0 c.if-not-covers.false)) c.self.invariant.0 c.self.invariant.1))
    (done_at_rest _ s.windows.widest s.read_count s.received_end _ done c.self.invariant.0 c.self.invariant.1))
