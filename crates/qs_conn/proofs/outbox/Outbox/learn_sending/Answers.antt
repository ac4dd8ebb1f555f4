use Rattle.std.proofs.Common.{refl}
use Rattle.qs_conn.proofs.Outboxes.{half_found, half_there, sending_is}
use Rattle.qs_machine.specs.Sums.{tables_of, or_no_sending}
use Rattle.qs_machine.specs.Tables.{lookup}
use Rattle.qs_conn.proofs.outbox.Outbox.learn_sending.Goals as goal

pub learn_lawful-requires-clause-open : goal.learn_lawful-requires-clause-open
learn_lawful-requires-clause-open c = half_there _ c.args.self.now (tables_of c.self.inside.types) c.args.stream c.self.view_is refl c.requires

pub returns : goal.returns
returns c =
    let types = tables_of c.self.inside.types in
    let half = or_no_sending (lookup types c.args.stream) in
    let at = half_found types c.args.stream (half_there _ c.args.self.now types c.args.stream c.self.view_is refl c.requires) in
    (half, sending_is _ c.args.self.now types c.args.stream half c.self.view_is refl at c.learn_lawful.ensures (c.self.invariant.0.tied.lanes c.args.stream half at))
