use Rattle.std.proofs.Common.{rules}
use Rattle.qs_machine.proofs.TableEdits.{lookup_is}
use Rattle.qs_conn.proofs.recv_tables.RecvTables.marks.Goals as goal

pub returns : goal.returns
returns c n kind = rw (← c.self.view_is) (search (rules, lookup_is))
