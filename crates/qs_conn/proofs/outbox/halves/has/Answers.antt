use Rattle.std.proofs.Common.{◌∙◌, sym, ap}
use Rattle.qs_machine.specs.Sums.{tables_of}
use Rattle.qs_machine.specs.Tables.{lookup}
use Rattle.qs_conn.specs.Marks.{is_marked}
use Rattle.qs_conn.specs.Tasks.{has}
use Rattle.qs_conn.proofs.Tasks.{one_open}
use Rattle.qs_conn.proofs.outbox.halves.has.Goals as goal

pub returns : goal.returns
returns c = c.has.ensures ∙ ap (is_marked c.marks.result.now) c.index_of.ensures.value ∙ c.marks.ensures c.args.stream (sym c.type_of.ensures.value) ∙ one_open (has c.args.task) (lookup (tables_of c.args.types.now) c.args.stream) c.requires.open
