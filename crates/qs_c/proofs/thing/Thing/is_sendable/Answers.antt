use Rattle.std.proofs.Common.{rules, IsTrue, ◌↔◌, refl}
use Rattle.qs_machine.specs.Asking.{GoesBesideAck}
use Rattle.qs_c.proofs.Steps.{same_end}
use Rattle.qs_c.proofs.thing.Thing.is_sendable.Goals as goal

pub returns : goal.returns
returns c = (refl, same_end (λ e. IsTrue c.is_sendable.result ↔ GoesBesideAck e) c.self.inside.end c.args.self.now (search rules) c.is_sendable.ensures)
