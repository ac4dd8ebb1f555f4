use Rattle.std.proofs.Common.{refl, sym, ◌∙◌}
use Rattle.qs_conn.specs.Filling.{end_by}
use Rattle.qs_conn.proofs.Untolds.{data_blocked_there}
use Rattle.qs_conn.proofs.limits.Limits.data_blocked.Goals as goal

pub returns-then-any_wants_more-clause-current : goal.returns-then-any_wants_more-clause-current
returns-then-any_wants_more-clause-current c =
    λ recvs e. data_blocked_there (end_by c.args.self.now recvs c.args.outbox.now e) c.args.self.now.known_data refl (sym c.sent_sum.ensures.value ∙ c.if-sent_sum-self.true) (c.any_wants_more.ensures.0 c.if-any_wants_more.true)
