use Rattle.std.proofs.Common.{rules}
use Rattle.qs_recv.proofs.LawfulLaws.{end_of-below}
use Rattle.qs_recv.proofs.rest.Rest.noted.Goals as goal

pub returns-then-self-gt0-clause-within : goal.returns-then-self-gt0-clause-within
returns-then-self-gt0-clause-within c = rw (← c.self.view_is) (search (rules, end_of-below))
