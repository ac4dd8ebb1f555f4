use Rattle.std.proofs.Common.{ap, is_some}
use Rattle.std.proofs.iter.Serving.{serving}
use Rattle.qs_machine.proofs.TableEdits.{open_there}
use Rattle.qs_conn.proofs.LaneEdits.{acked_still}
use Rattle.qs_conn.proofs.outbox.acks.chunk_acked.Goals as goal

pub edit-answer-requires-clause-stays : goal.edit-answer-requires-clause-stays
edit-answer-requires-clause-stays c = grind (serving, acked_still)

pub settle-requires : goal.settle-requires
settle-requires c = open_there c.edit-answer.new.types c.args.stream c.type_of.result c.index_of.result c.index-types-type_of.result c.edit-answer.ensures.len c.type_of.ensures.value c.index_of.ensures.value (ap is_some c.edit-answer.ensures.edited.there)
