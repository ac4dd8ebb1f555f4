use Rattle.qs_send.proofs.Outstanding.{order_of_nothing}
use Rattle.qs_send.proofs.lost_records.LostRecords.new.Goals as goal

pub invariant_of-result : goal.invariant_of-result
invariant_of-result c = (order_of_nothing _ _ c.new.ensures c.new-2.ensures.items, tt)
