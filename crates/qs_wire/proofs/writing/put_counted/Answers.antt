use Rattle.std.proofs.Common.{length}
use Rattle.qs_wire.specs.Varint.{short}
use Rattle.qs_wire.proofs.Writes.{Puts-then}
use Rattle.qs_wire.proofs.writing.put_counted.Goals as goal

pub returns-clause-puts : goal.returns-clause-puts
returns-clause-puts c =
    Puts-then c.args.at c.put_number-next.result (short (length c.args.bytes.now)) c.args.bytes.now c.args.out.now c.put_number-next.new.out c.put_bytes.new.out c.put_number-next.ensures.puts c.put_number-next.ensures.next c.put_bytes.ensures.puts
