use Rattle.qs_conn.proofs.Outboxes.{chunk_asks}
use Rattle.qs_machine.specs.Sums.{tables_of}
use Rattle.qs_conn.proofs.outbox.acks.piece_acked.Goals as goal

pub returns-in-Data-clause-asks : goal.returns-in-Data-clause-asks
returns-in-Data-clause-asks c =
    rw c.in-Data.is (chunk_asks c.chunk_acked.result (tables_of c.args.types.now) c.args.told.now c.in-Data.stream c.in-Data.chunk (rw c.in-Data.is at c.requires) c.chunk_acked.ensures.asks)
