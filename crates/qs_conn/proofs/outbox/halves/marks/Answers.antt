use Rattle.std.proofs.Common.{◌/◌, ◌∙◌, sym, ap, refl}
use Rattle.qs_machine.proofs.TableEdits.{lookup_is}
use Rattle.qs_conn.specs.Marks.{one_has}
use Rattle.qs_conn.specs.Tasks.{has}
use Rattle.qs_conn.proofs.outbox.halves.marks.Goals as goal

pub returns : goal.returns
returns c n kind = c.marks.ensures (n / 4) ∙ ap (one_has (has c.args.task)) (sym (lookup_is c.args.types.now n c.args.stream_type (n / 4) c.index-types-stream_type.result c.requires.len (sym kind) refl))
