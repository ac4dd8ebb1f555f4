use Rattle.std.proofs.Common.{sym, ◌∙◌}
use Rattle.qs_conn.specs.Filling.{end_by}
use Rattle.qs_conn.proofs.Untolds.{stop_there}
use Rattle.qs_conn.proofs.limits.stop_sending.Goals as goal

pub returns-clause-current : goal.returns-clause-current
returns-clause-current c = λ t o e. stop_there (end_by t c.args.recvs.now o e) c.args.stream c.in_ok-code.code (sym c.stop_to_tell.ensures.value ∙ c.in_ok-code.was)
