use Rattle.std.proofs.Common.{ap, ◌∙◌}
use Rattle.std.proofs.lemmas.List.{length-set}
use Rattle.qs_send.specs.Lane.{new_lane, new_sending}
use Rattle.qs_machine.specs.Tables.{open_to}
use Rattle.qs_machine.specs.Outgoing.{lanes_of}
use Rattle.qs_machine.specs.Sums.{tables_of}
use Rattle.qs_machine.proofs.TableEdits.{on_ok}
use Rattle.qs_machine.proofs.LaneTables.{lanes_opened}
use Rattle.qs_machine.proofs.LostSent.{sent_open}
use Rattle.qs_conn.proofs.Outboxes.{opened_ok, opened_err, sends_step, same_step, on_error, box_open}
use Rattle.qs_conn.proofs.outbox.Outbox.open_to.Goals as goal

pub invariant_of-self : goal.invariant_of-self
invariant_of-self c =
    let ok = opened_ok c.self.inside.types c.args.stream _ _ _ c.self.invariant.2 c.type_of.ensures.value _ _ _ _ c.open_to.result c.type_of-2.ensures.value c.index_of.ensures.value c.open_to.ensures.ok in
    let err = opened_err c.self.inside.types _ _ _ c.open_to.result c.open_to.ensures.err in
    (box_open _ _ _ _ _ _ _ _ _ c.self.invariant.0 c.args.stream c.args.limit c.args.buffer c.open_to.result ok err, sent_open (tables_of c.self.inside.types) _ _ c.self.invariant.1 c.args.stream c.args.limit c.args.buffer c.open_to.result ok err, length-set _ _ _ ∙ c.self.invariant.2)

pub returns-clause-ok : goal.returns-clause-ok
returns-clause-ok c =
    on_ok c.open_to.result _ _
    (λ is. sends_step _ c.args.self.now _ (λ t. open_to t c.args.stream (λ m. new_lane m c.args.limit c.args.buffer)) c.self.view_is (ap lanes_of is ∙ lanes_opened (tables_of c.self.inside.types) c.args.stream (λ m. new_sending m c.args.limit c.args.buffer)))
    (opened_ok c.self.inside.types c.args.stream _ _ _ c.self.invariant.2 c.type_of.ensures.value _ _ _ _ c.open_to.result c.type_of-2.ensures.value c.index_of.ensures.value c.open_to.ensures.ok)

pub returns-clause-err : goal.returns-clause-err
returns-clause-err c = on_error c.open_to.result _ _ (λ is. same_step _ c.args.self.now _ c.self.view_is (ap lanes_of is)) (opened_err c.self.inside.types _ _ _ c.open_to.result c.open_to.ensures.err)
