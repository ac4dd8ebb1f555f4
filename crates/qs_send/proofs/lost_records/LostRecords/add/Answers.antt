use Rattle.qs_send.proofs.Outstanding.{order_added}
use Rattle.qs_send.proofs.lost_records.LostRecords.add.Goals as goal

pub invariant_of-self : goal.invariant_of-self
invariant_of-self c =
    rw (c.drop_oldest.ensures.pieces, c.drop_oldest.ensures.order, c.add.ensures, c.note.ensures, c.is_held-held.ensures) (order_added _ _ c.args.number c.args.piece c.self.invariant.0, tt)
