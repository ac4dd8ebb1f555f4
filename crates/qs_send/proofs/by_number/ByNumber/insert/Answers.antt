use Rattle.std.proofs.Common.{◌≡◌, arith, rules}
use Rattle.std.specs.List.{insert}
use Rattle.qs_send.proofs.Outstanding.{gap_none, get_none, map-insert, one_more, rising-insert, inserted}
use Rattle.qs_send.proofs.by_number.ByNumber.insert.Goals as goal

pub invariant_of-self : goal.invariant_of-self
invariant_of-self c =
    let rs = c.self.inside.records.items in
    let items : c.insert.new.self.items ≡ insert rs c.args.place c.new-2.result = inserted c.insert.result _ _ _ (c.insert.ensures.succeeds (let room = rw (← c.self.view_is) at c.requires.room in omega (arith, room))) c.insert.ensures.items in
    rw items (search (rules, inserted, rising-insert, one_more))

pub returns : goal.returns
returns c =
    let rs = c.self.inside.records.items in
    let items : c.insert.new.self.items ≡ insert rs c.args.place c.new-2.result = inserted c.insert.result _ _ _ (c.insert.ensures.succeeds (let room = rw (← c.self.view_is) at c.requires.room in omega (arith, room))) c.insert.ensures.items in
    rw (items, ← c.self.view_is) (search (rules, inserted, get_none, gap_none, map-insert))
