use Rattle.std.proofs.Common.{◌≡◌, ◌∙◌, false, refl, subst, sym}
use Rattle.std.proofs.lemmas.Option.{none-some, same_Some}
use Rattle.qs_machine.specs.Sums.{tables_of, or_no_sending}
use Rattle.qs_machine.specs.Tables.{lookup}
use Rattle.qs_conn.specs.Tasks.{has}
use Rattle.qs_conn.proofs.Hearing.{quiet_at}
use Rattle.qs_conn.proofs.Outboxes.{half_found, no_lookup, sending_is}
use Rattle.qs_conn.proofs.outbox.Outbox.has.Goals as goal

pub returns-then-is_open-clause-yes : goal.returns-then-is_open-clause-yes
returns-then-is_open-clause-yes c = λ on.
    let types = tables_of c.self.inside.types in
    let half = or_no_sending (lookup types c.args.stream) in
    let at = half_found types c.args.stream (sym c.is_open.ensures ∙ c.if-is_open.true) in
    (half, sending_is _ c.args.self.now types c.args.stream half c.self.view_is refl at c.learn_lawful.ensures (c.self.invariant.0.tied.lanes c.args.stream half at), sym c.has.ensures ∙ on)

pub returns-then-is_open-clause-no : goal.returns-then-is_open-clause-no
returns-then-is_open-clause-no c = λ off.
    let types = tables_of c.self.inside.types in
    let half = or_no_sending (lookup types c.args.stream) in
    let at = half_found types c.args.stream (sym c.is_open.ensures ∙ c.if-is_open.true) in
    quiet_at c.args.task _ c.args.self.now types c.args.stream c.self.view_is refl (c.self.invariant.0.tied.lanes c.args.stream)
    (λ s there. subst (λ x. has c.args.task x ≡ false) (same_Some half s (sym at ∙ there)) (sym c.has.ensures ∙ off))

pub returns-clause-no : goal.returns-clause-no
returns-clause-no c = λ off l at.
    absurd (none-some l (sym (no_lookup _ c.args.self.now (tables_of c.self.inside.types) c.args.stream c.self.view_is refl (sym c.is_open.ensures ∙ c.if-is_open.false)) ∙ at))
