use Rattle.std.specs.Prelude.{false}
use Rattle.qs_wire.specs.Reading.{reading_of}
use Rattle.qs_machine.proofs.Again.{takes_prefix}
use Rattle.qs_machine.proofs.laws.payloads_are_taken_in_order.Goals as goal

pub returns : goal.returns
returns c = λ number payload old result new takes. takes_prefix number (reading_of payload).fault false old (reading_of payload).left result new takes
