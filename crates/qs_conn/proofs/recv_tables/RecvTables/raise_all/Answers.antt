use Rattle.std.proofs.Common.{rules}
use Rattle.qs_machine.proofs.TableEdits.{each_is}
use Rattle.qs_conn.proofs.DuePackets.{stays_four}
use Rattle.qs_conn.proofs.recv_tables.RecvTables.raise_all.Goals as goal

pub returns-clause-after : goal.returns-clause-after
returns-clause-after c = rw (← c.self.view_is) (search (rules, each_is))

pub returns-clause-marked : goal.returns-clause-marked
returns-clause-marked c = rw (← c.self.view_is) (stays_four c.self.inside.types _ _ _ _ _ _ _ _ _ _ _ _ _ (search (rules)) c.raise_all.ensures.marked c.raise_all-2.ensures.marked c.raise_all-3.ensures.marked c.raise_all-4.ensures.marked)
