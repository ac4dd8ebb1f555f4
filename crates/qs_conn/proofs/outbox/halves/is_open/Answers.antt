use Rattle.qs_machine.proofs.TableEdits.{lookup_is, some_tested}
use Rattle.qs_conn.proofs.outbox.halves.is_open.Goals as goal

pub returns : goal.returns
returns c = rw (lookup_is c.args.types.now c.args.stream c.type_of.result c.index_of.result c.index-types-type_of.result c.requires c.type_of.ensures.value c.index_of.ensures.value) (some_tested _ _ _ c.len.ensures.value)
