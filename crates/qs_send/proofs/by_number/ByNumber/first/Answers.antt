use Rattle.std.proofs.Common.{◌∙◌, sym, ap}
use Rattle.qs_send.specs.Records.{first_piece}
use Rattle.qs_send.specs.ByNumber.{IsAt}
use Rattle.qs_send.proofs.Outstanding.{item_at, get_at}
use Rattle.qs_send.proofs.by_number.ByNumber.first.Goals as goal

pub returns-in-Ok : goal.returns-in-Ok
returns-in-Ok c =
    let rs = c.self.inside.records.items in
    let at : IsAt c.args.number rs c.in-Ok.place = rw (← c.self.view_is) at c.in-Ok.ensures.found in
    let item = item_at c.args.number 0 rs c.in-Ok.place c.index.result.now c.self.invariant.0 at c.index.ensures in
    rw (← c.self.view_is) (c.first.ensures ∙ sym (ap first_piece (get_at c.args.number rs c.index.result.now item)))
