use Rattle.qs_conn.proofs.LaneEdits.{summed}
use Rattle.qs_conn.proofs.recv_tables.RecvTables.tally.Goals as goal

pub returns : goal.returns
returns c =
    rw (← c.self.view_is)
    (summed c.self.inside.types _ _ _ _ c.self.invariant c.tally.ensures.lawful c.tally-2.ensures.lawful c.tally-3.ensures.lawful c.tally-4.ensures.lawful c.tally.ensures.value c.tally-2.ensures.value c.tally-3.ensures.value c.tally-4.ensures.value
    (rw (← c.self.view_is) at c.requires) c.sum.result c.sum.ensures)
