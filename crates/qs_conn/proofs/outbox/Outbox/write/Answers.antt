use Rattle.std.proofs.Common.{◌≡◌, ◌<◌, Err, length, refl, arith, inl, inr, sym, ◌∙◌}
use Rattle.std.proofs.iter.Serving.{serving}
use Rattle.qs_send.specs.Lane.{accepted}
use Rattle.qs_send.specs.declared.parts.SendFault.TheVariants.{NoMemory}
use Rattle.qs_machine.specs.Tables.{lookup}
use Rattle.qs_machine.specs.Sums.{tables_of, or_no_sending}
use Rattle.qs_machine.proofs.LostSent.{sent_write}
use Rattle.qs_conn.proofs.LaneEdits.{wrote_in, wrote_still}
use Rattle.qs_conn.proofs.Outboxes.{half_there, box_written, write_ok, write_err, write_asks, wrote_none, lookup_now}
use Rattle.qs_conn.proofs.outbox.Outbox.write.Goals as goal

pub edit-requires-clause-stays : goal.edit-requires-clause-stays
edit-requires-clause-stays c = λ law r s left. wrote_still r _ s c.args.bytes.now law (grind (serving, left)) (grind (serving, left))

pub invariant_of-self : goal.invariant_of-self
invariant_of-self c =
    let there = half_there _ c.args.self.now (tables_of c.self.inside.types) c.args.stream c.self.view_is refl c.requires in
    let (ok, err) = wrote_in _ _ _ _ _ c.args.bytes.now c.edit.ensures.edited (λ s left. (grind (serving, left), grind (serving, left))) in
    (box_written _ _ _ _ _ _ _ _ _ c.self.invariant.0 c.args.stream c.args.bytes.now c.edit.result there c.edit.ensures.lawful ok err, sent_write (tables_of c.self.inside.types) _ _ c.self.invariant.1 c.args.stream c.args.bytes.now c.edit.result ok err, c.edit.ensures.len)

pub returns-clause-accepted : goal.returns-clause-accepted
returns-clause-accepted c = write_ok _ c.args.self.now (tables_of c.self.inside.types) _ c.args.stream c.args.bytes.now c.edit.result c.self.view_is refl (wrote_in _ _ _ _ _ c.args.bytes.now c.edit.ensures.edited (λ s left. (grind (serving, left), grind (serving, left)))).0

pub returns-clause-refused : goal.returns-clause-refused
returns-clause-refused c = write_err _ c.args.self.now (tables_of c.self.inside.types) _ c.args.stream c.edit.result c.self.view_is refl (wrote_in _ _ _ _ _ c.args.bytes.now c.edit.ensures.edited (λ s left. (grind (serving, left), grind (serving, left)))).1

pub returns-clause-grows : goal.returns-clause-grows
returns-clause-grows c =
    write_asks _ c.args.self.now (tables_of c.self.inside.types) c.args.stream c.args.bytes.now c.edit.result c.self.view_is refl
    (λ none. elim c.edit.ensures.edited.left [ inl left ↦ (let asks : c.edit.result ≡ Err NoMemory → 0 < accepted (or_no_sending (lookup (tables_of c.self.inside.types) c.args.stream)).lane (length c.args.bytes.now) = grind (serving, left) in asks none) | inr o ↦ (let is = o.1 in grind (arith, is, none)) ])

pub returns-in-None-clause-accepted : goal.returns-in-None-clause-accepted
returns-in-None-clause-accepted c = wrote_none _ c.args.self.now (tables_of c.self.inside.types) c.args.stream c.args.bytes.now _ c.self.view_is refl c.half_of.ensures (sym c.has.ensures ∙ c.if-not-has.true) (sym c.refusal.ensures ∙ c.in-None.is)

pub returns-in-Some-clause-refused : goal.returns-in-Some-clause-refused
returns-in-Some-clause-refused c =
    let there = lookup_now _ c.args.self.now (tables_of c.self.inside.types) c.args.stream _ c.self.view_is refl c.half_of.ensures in
    (refl, grind (arith, there))
