use Rattle.qs_conn.specs.Filling.{end_by}
use Rattle.qs_conn.proofs.Untolds.{stream_data_blocked_there}
use Rattle.qs_conn.proofs.limits.stream_data_blocked.Goals as goal

pub returns-clause-current : goal.returns-clause-current
returns-clause-current c = λ t recvs e. stream_data_blocked_there (end_by t recvs c.args.outbox.now e) c.args.stream c.in_ok-limit.limit c.in_ok-limit.ensures.found
