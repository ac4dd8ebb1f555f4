use Rattle.std.proofs.Common.{◌≡◌, ◌∙◌, None, Some, ap, is_some, refl, subst, sym, true, false, arith}
use Rattle.std.proofs.lemmas.Option.{same_Some}
use Rattle.qs_machine.specs.Sums.{tables_of, or_no_sending}
use Rattle.qs_machine.specs.Tables.{lookup}
use Rattle.qs_conn.specs.Tasks.{has}
use Rattle.qs_conn.proofs.Outboxes.{half_found, sending_is}
use Rattle.qs_conn.proofs.Hearing.{quiet_at, quiet_before}
use Rattle.qs_conn.proofs.outbox.Outbox.next_marked.Goals as goal

pub returns-then-not-may_have-clause-quiet : goal.returns-then-not-may_have-clause-quiet
returns-then-not-may_have-clause-quiet c =
    let none : c.may_have.result ≡ false = grind (arith, c.if-not-may_have.true) in
    λ n le before. quiet_at c.args.task _ c.args.self.now (tables_of c.self.inside.types) n c.self.view_is refl (c.self.invariant.0.tied.lanes n) (λ s. c.may_have.ensures none n s)

pub learn_lawful-requires-clause-open : goal.learn_lawful-requires-clause-open
learn_lawful-requires-clause-open c = ap is_some (c.in-Some.ensures.found c.in-Some.stream refl).1.1

pub returns-in_default-clause-quiet : goal.returns-in_default-clause-quiet
returns-in_default-clause-quiet c = λ n le before.
    quiet_at c.args.task _ c.args.self.now (tables_of c.self.inside.types) n c.self.view_is refl (c.self.invariant.0.tied.lanes n) (quiet_before c.args.task (tables_of c.self.inside.types) c.args.from None c.in_default.ensures n le before)

pub returns-clause-quiet : goal.returns-clause-quiet
returns-clause-quiet c = λ n le before.
    quiet_at c.args.task _ c.args.self.now (tables_of c.self.inside.types) n c.self.view_is refl (c.self.invariant.0.tied.lanes n) (quiet_before c.args.task (tables_of c.self.inside.types) c.args.from (Some c.in-Some.stream) c.in-Some.ensures n le before)

pub returns-clause-from : goal.returns-clause-from
returns-clause-from c = (c.in-Some.ensures.found c.in-Some.stream refl).0

pub returns-clause-has : goal.returns-clause-has
returns-clause-has c =
    let types = tables_of c.self.inside.types in
    let n = c.in-Some.stream in
    let half = or_no_sending (lookup types n) in
    let (s, there, is) = (c.in-Some.ensures.found n refl).1 in
    let at = half_found types n (ap is_some there) in
    (half, sending_is _ c.args.self.now types n half c.self.view_is refl at c.learn_lawful.ensures (c.self.invariant.0.tied.lanes n half at), subst (λ x. has c.args.task x ≡ true) (same_Some s half (sym there ∙ at)) is)
