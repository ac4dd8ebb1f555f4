use Rattle.std.proofs.Common.{subst, sym}
use Rattle.qs_send.specs.Sound.{IsLawful}
use Rattle.qs_machine.proofs.TableEdits.{half_is}
use Rattle.qs_conn.specs.Edits.{LeavesStill}
use Rattle.qs_conn.proofs.LaneEdits.{edited_in}
use Rattle.qs_conn.proofs.outbox.halves.edit.Goals as goal

pub edit-requires-clause-stays : goal.edit-requires-clause-stays
edit-requires-clause-stays g c =
    subst (LeavesStill g.F.FnOnce c.args.change c.args.moves) (half_is c.args.types.now c.args.stream c.type_of.result c.index_of-index.result c.index-types-type_of.result c.told-types c.type_of.ensures.value c.index_of-index.ensures.value) c.requires.stays

pub returns-clause-lawful : goal.returns-clause-lawful
returns-clause-lawful g c = subst IsLawful (sym (half_is c.args.types.now c.args.stream c.type_of.result c.index_of-index.result c.index-types-type_of.result c.told-types c.type_of.ensures.value c.index_of-index.ensures.value)) c.learn_lawful.ensures

pub returns-clause-edited : goal.returns-clause-edited
returns-clause-edited g c = edited_in _ c.args.types.now c.args.stream c.type_of.result c.index_of-index.result c.index-types-type_of.result _ _ _ c.edit.result (half_is c.args.types.now c.args.stream c.type_of.result c.index_of-index.result c.index-types-type_of.result c.told-types c.type_of.ensures.value c.index_of-index.ensures.value) c.told-types c.type_of.ensures.value c.index_of-index.ensures.value c.requires.open c.edit.ensures
