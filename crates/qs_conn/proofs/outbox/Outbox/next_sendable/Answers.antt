use Rattle.std.proofs.Common.{refl, ap, is_some}
use Rattle.std.proofs.lemmas.Option.{none-some}
use Rattle.qs_conn.proofs.Hearing.{due_least, lawful_found}
use Rattle.qs_machine.specs.Sums.{tables_of}
use Rattle.qs_conn.proofs.outbox.Outbox.next_sendable.Goals as goal

pub half_of-requires-clause-open : goal.half_of-requires-clause-open
half_of-requires-clause-open c = ap is_some (c.in-Some.ensures.found c.in-Some.stream refl).1.1

pub returns : goal.returns
returns c =
    due_least _ c.args.self.now (tables_of c.self.inside.types) c.args.from _ c.self.view_is refl c.self.invariant.0.tied.lanes (lawful_found (tables_of c.self.inside.types) c.in-Some.stream c.half_of.result c.half_of.ensures c.learn_lawful.ensures) c.in-Some.ensures

pub returns-in_default : goal.returns-in_default
returns-in_default c = due_least _ c.args.self.now (tables_of c.self.inside.types) c.args.from _ c.self.view_is refl c.self.invariant.0.tied.lanes (λ n s none. absurd (none-some n none)) c.in_default.ensures
