use Rattle.qs_send.proofs.Slots.{over_lawful}
use Rattle.qs_send.proofs.view.SendView.of_over.Goals as goal

pub invariant_of-result : goal.invariant_of-result
invariant_of-result c = over_lawful c.args.number c.args.written _ _ c.args.slot.buffer c.args.slot.widest c.requires.number c.requires.slot.within c.requires.slot.small c.requires.slot.widest

pub returns-clause-lawful : goal.returns-clause-lawful
returns-clause-lawful c = over_lawful c.args.number c.args.written _ _ c.args.slot.buffer c.args.slot.widest c.requires.number c.requires.slot.within c.requires.slot.small c.requires.slot.widest
