use Rattle.std.proofs.Common.{subst}
use Rattle.qs_machine.specs.Outgoing.{Outgoing, AreOfOpen}
use Rattle.qs_machine.proofs.LostSent.{all_open}
use Rattle.qs_machine.specs.Sums.{tables_of}
use Rattle.qs_conn.proofs.outbox.Outbox.learn_of_open.Goals as goal

pub returns-clause-lost : goal.returns-clause-lost
returns-clause-lost c = subst (λ (o : Outgoing). AreOfOpen o.sends o.lost.pieces) c.self.view_is (all_open (tables_of c.self.inside.types) c.self.inside.lost.pieces c.self.invariant.1)
