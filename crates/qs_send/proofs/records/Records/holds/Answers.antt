use Rattle.qs_send.proofs.Outstanding.{carried_at, at_carried}
use Rattle.qs_send.proofs.records.Records.holds.Goals as goal

pub returns : goal.returns
returns c =
    let base = c.self.inside.base in
    let slots = c.self.inside.slots.items in
    let has = c.some_has.ensures in
    rw (← c.self.view_is) ((λ h. let at = has.0 h in carried_at base slots c.args.piece at.0 at.2), (λ carried. has.1 (at_carried base slots c.args.piece carried)))
