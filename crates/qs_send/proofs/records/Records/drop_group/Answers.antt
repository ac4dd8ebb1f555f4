use Rattle.std.proofs.Common.{arith}
use Rattle.qs_send.specs.Records.{packets_of}
use Rattle.qs_send.proofs.Outstanding.{gone_less}
use Rattle.qs_send.proofs.records.Records.drop_group.Goals as goal

pub invariant_of-self : goal.invariant_of-self
invariant_of-self c =
    let far = c.if-self.true in (
      c.self.invariant.0,
      omega (arith, far),
      rw c.drop_group.ensures (gone_less c.self.inside.gone c.self.inside.first (packets_of c.self.inside.base c.self.inside.slots.items) c.self.invariant.2),
    )
