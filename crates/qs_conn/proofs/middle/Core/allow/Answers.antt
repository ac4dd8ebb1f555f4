use Rattle.qs_conn.proofs.Cores.{rest_allowed}
use Rattle.qs_conn.proofs.middle.Core.allow.Goals as goal

pub returns-clause-rest : goal.returns-clause-rest
returns-clause-rest c = rest_allowed c.args.self.now c.requires.rest c.args.stream c.args.limit c.learn_sending.ensures.0 c.allow.new.self c.learn_sending.ensures.1 c.allow.ensures
