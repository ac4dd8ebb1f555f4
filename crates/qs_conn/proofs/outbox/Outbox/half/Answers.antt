use Rattle.std.proofs.Common.{refl, sym, ◌∙◌, ◌≡◌, false, arith}
use Rattle.qs_conn.proofs.Outboxes.{no_lookup, lookup_now, sending_is}
use Rattle.qs_machine.specs.Sums.{tables_of}
use Rattle.qs_conn.proofs.outbox.Outbox.half.Goals as goal

pub returns-then-not-is_open-clause-none : goal.returns-then-not-is_open-clause-none
returns-then-not-is_open-clause-none c =
    let none : c.is_open.result ≡ false = grind (arith, c.if-not-is_open.true) in
    no_lookup _ c.args.self.now (tables_of c.self.inside.types) c.args.stream c.self.view_is refl (sym c.is_open.ensures ∙ none)

pub returns-clause-found : goal.returns-clause-found
returns-clause-found c = lookup_now _ c.args.self.now (tables_of c.self.inside.types) c.args.stream c.half_of-half.result c.self.view_is refl c.half_of-half.ensures

pub returns-clause-sending : goal.returns-clause-sending
returns-clause-sending c = sending_is _ c.args.self.now (tables_of c.self.inside.types) c.args.stream c.half_of-half.result c.self.view_is refl c.half_of-half.ensures c.learn_lawful.ensures (c.self.invariant.0.tied.lanes c.args.stream c.half_of-half.result c.half_of-half.ensures)
