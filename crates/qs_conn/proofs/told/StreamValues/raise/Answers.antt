use Rattle.std.proofs.Common.{rules}
use Rattle.qs_conn.proofs.ToldLaws.{value_at, inserted, or_zero-unwrap}
use Rattle.qs_conn.proofs.told.StreamValues.raise.Goals as goal

pub returns-clause-ok : goal.returns-clause-ok
returns-clause-ok c = rw (← c.self.view_is) (search (rules, value_at, or_zero-unwrap, inserted))
