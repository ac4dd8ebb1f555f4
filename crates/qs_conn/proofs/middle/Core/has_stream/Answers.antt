use Rattle.std.proofs.Common.{arith}
use Rattle.qs_machine.specs.Due.{StreamGoes}
use Rattle.qs_conn.specs.Middle.{end_of}
use Rattle.qs_conn.proofs.MadePackets.{tells_any}
use Rattle.qs_conn.proofs.middle.Core.has_stream.Goals as goal

pub returns : goal.returns
returns c = λ e. rw c.is_some.ensures (tells_any (StreamGoes (end_of c.args.self.now e)) c.next_going.result (c.next_going.ensures.goes e) (λ n. c.next_going.ensures.none n e (omega arith)))
