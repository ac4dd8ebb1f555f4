use Rattle.std.proofs.Common.{sym, ◌∙◌}
use Rattle.qs_conn.specs.Filling.{end_by}
use Rattle.qs_conn.proofs.Untolds.{reset_there}
use Rattle.qs_conn.proofs.limits.reset_stream.Goals as goal

pub returns-clause-current : goal.returns-clause-current
returns-clause-current c = λ t recvs e. reset_there (end_by t recvs c.args.outbox.now e) c.args.stream c.in_ok-reset.reset (sym c.reset_of.ensures.value ∙ c.in_ok-reset.was)
