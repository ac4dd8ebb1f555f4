use Rattle.std.proofs.Common.{sym}
use Rattle.qs_wire.proofs.FieldLaws.{number_len, number_none}
use Rattle.qs_wire.proofs.varint.parse.Goals as goal

pub returns-in-Ok : goal.returns-in-Ok
returns-in-Ok c = sym (number_len c.args.bytes.now c.in-Ok.value c.in-Ok.after.now c.in-Ok.ensures.gives)

pub returns-in-Err : goal.returns-in-Err
returns-in-Err c = sym (number_none c.args.bytes.now _ c.in-Err.ensures.gives)
