use Rattle.std.proofs.Common.{sym, ◌∙◌}
use Rattle.qs_recv.proofs.RestLaws.{given_some, reset_at_rest}
use Rattle.qs_recv.proofs.live.LiveHalf.reset.Goals as goal

pub invariant_of-result : goal.invariant_of-result
invariant_of-result g c =
    let s = c.self.inside in
    (reset_at_rest _ s.windows.widest s.read_count s.received_end c.args.code c.args.size (given_some _ _ ∙ c.if-self.false) (rw (← c.self.view_is) at (sym c.is_whole.ensures ∙ c.if-is_whole.false)) (rw (← c.self.view_is) at c.requires.passed) c.self.invariant.0)
