use Rattle.std.proofs.Common.{◌≡◌, ◌+◌, ◌-◌, ◌<◌, length, refl, arith, rules}
use Rattle.std.specs.Vec.{vec_len}
use Rattle.qs_send.proofs.Slots.{none_of, over_puts, placed_puts}
use Rattle.qs_send.proofs.halves.put_over.Goals as goal

pub returns-clause-placed : goal.returns-clause-placed
returns-clause-placed c =
    let xs = c.args.full.now.items in
    let last : c.index-3.result.now.rest ≡ length xs - 1 = omega (arith, c.if-moved-last.false, c.len-last.ensures) in
    let one_less : length c.swap_remove.new.self.items + 1 ≡ length xs = omega (arith, c.swap_remove.ensures.len) in
    let owns : c.index-owner.result < length c.args.slots.now.items = omega (arith, c.if-owner-len.false, c.len.ensures) in
    placed_puts xs c.swap_remove.new.self.items c.args.slots.now.items c.args.index c.index-owner.result c.requires.over.0 c.index.result.now c.index-3.result.now _ c.args.over c.requires.placed c.requires.there c.index.ensures (none_of _ c.if-is_over.ensures) owns c.index-3.ensures (none_of _ c.if-is_over-2.ensures) last (none_of _ c.if-is_over-2.ensures) refl c.requires.over.1 one_less (vec_len c.args.full.now) (omega arith)
    c.swap_remove.ensures.by_index.0 c.swap_remove.ensures.by_index.1

pub returns-clause-put : goal.returns-clause-put
returns-clause-put c kind = search (rules, over_puts, none_of)
