use Rattle.std.proofs.Common.{ap, ◌∙◌, take, ◌%◌}
use Rattle.std.proofs.lemmas.List.{length-set}
use Rattle.qs_machine.specs.Tables.{table, with_table}
use Rattle.qs_machine.specs.Asking.{kept_on}
use Rattle.qs_machine.specs.Outgoing.{lanes_of}
use Rattle.qs_machine.specs.Sums.{tables_of}
use Rattle.qs_machine.proofs.LaneTables.{lanes_closed}
use Rattle.qs_machine.proofs.LostSent.{sent_close}
use Rattle.qs_conn.specs.Promised.{promised_on}
use Rattle.qs_conn.proofs.Outboxes.{closed_is, sends_step, box_closed}
use Rattle.qs_conn.proofs.Tasks.{closes_none}
use Rattle.qs_conn.proofs.outbox.Outbox.close_to.Goals as goal

pub close_to-requires-clause-unwritten : goal.close_to-requires-clause-unwritten
close_to-requires-clause-unwritten c = closes_none promised_on c.self.inside.types c.args.stream _ c.args.count _ c.self.invariant.2 c.type_of.ensures.value (rw (← c.self.view_is) at c.requires.unwritten)

pub close_to-requires-clause-unkept : goal.close_to-requires-clause-unkept
close_to-requires-clause-unkept c = closes_none kept_on c.self.inside.types c.args.stream _ c.args.count _ c.self.invariant.2 c.type_of.ensures.value (rw (← c.self.view_is) at c.requires.unkept)

pub invariant_of-self : goal.invariant_of-self
invariant_of-self c =
    let is = closed_is c.self.inside.types c.args.stream _ 0 _ c.self.invariant.2 c.type_of.ensures.value _ c.args.count c.close_to.ensures in
    (box_closed _ _ _ _ _ _ _ _ _ c.self.invariant.0 c.args.stream c.args.count is (rw (← c.self.view_is) at c.requires.none) (rw (← c.self.view_is) at c.requires.unsent), sent_close (tables_of c.self.inside.types) _ _ c.args.stream c.args.count is (rw (← c.self.view_is) at c.requires.lost) c.self.invariant.1, length-set _ _ _ ∙ c.self.invariant.2)

pub returns : goal.returns
returns c =
    sends_step _ c.args.self.now _ (λ t. with_table t (c.args.stream % 4) (take c.args.count (table t (c.args.stream % 4)))) c.self.view_is
    (ap lanes_of (closed_is c.self.inside.types c.args.stream _ 0 _ c.self.invariant.2 c.type_of.ensures.value _ c.args.count c.close_to.ensures) ∙ lanes_closed (tables_of c.self.inside.types) (c.args.stream % 4) c.args.count)
