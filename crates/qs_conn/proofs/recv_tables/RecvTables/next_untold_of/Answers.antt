use Rattle.qs_conn.specs.RecvTasks.{has}
use Rattle.qs_conn.proofs.Marked.{next_untold}
use Rattle.qs_conn.proofs.recv_tables.RecvTables.next_untold_of.Goals as goal

pub returns-clause-least : goal.returns-clause-least
returns-clause-least c = next_untold (has c.args.task) c.args.self.now c.marks-marks.result.now c.args.stream_type c.marks-marks.ensures c.args.told.now 0 _ (rw c.of_type.ensures at c.next_untold.ensures.least)
