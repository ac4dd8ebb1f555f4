use Rattle.std.proofs.Common.{◌∙◌, ◌<◌, length, sym, ap, subst, rules}
use Rattle.qs_send.specs.ByNumber.{IsAt, map_of}
use Rattle.qs_send.specs.Records.{without_first}
use Rattle.qs_send.proofs.Outstanding.{item_at, same_item, get_at, map-set, first_gone, last_gone, some_left, rising-set}
use Rattle.qs_send.proofs.by_number.ByNumber.drop_first.Goals as goal

pub invariant_of-self : goal.invariant_of-self
invariant_of-self c =
    let rs = c.self.inside.records.items in
    let x = c.index_mut.result.now in
    let place : IsAt c.args.number rs c.in-Ok.place = rw (← c.self.view_is) at c.in-Ok.ensures.found in
    let seen = item_at c.args.number 0 rs c.in-Ok.place c.index.result.now c.self.invariant.0 place c.index.ensures in
    let item = item_at c.args.number 0 rs c.in-Ok.place x c.self.invariant.0 place c.index_mut.ensures.value in
    let same = same_item c.args.number rs c.index.result.now x seen item in
    let more : 1 < length x.pieces = subst (λ y. 1 < length y.pieces) same (c.is_last.ensures.more c.if-is_last.false) in (
      rising-set c.args.number 0 rs c.in-Ok.place c.drop_first.new.self c.self.invariant.0 place (c.drop_first.ensures.number ∙ item.number) (some_left x.pieces c.drop_first.new.self.pieces more c.drop_first.ensures.pieces),
      c.self.invariant.1,
    )

pub returns-then-is_last : goal.returns-then-is_last
returns-then-is_last c = search (rules, item_at, last_gone, get_at)

pub returns-else-is_last : goal.returns-else-is_last
returns-else-is_last c =
    let rs = c.self.inside.records.items in
    let x = c.index_mut.result.now in
    let place : IsAt c.args.number rs c.in-Ok.place = rw (← c.self.view_is) at c.in-Ok.ensures.found in
    let seen = item_at c.args.number 0 rs c.in-Ok.place c.index.result.now c.self.invariant.0 place c.index.ensures in
    let item = item_at c.args.number 0 rs c.in-Ok.place x c.self.invariant.0 place c.index_mut.ensures.value in
    let same = same_item c.args.number rs c.index.result.now x seen item in
    let more : 1 < length x.pieces = subst (λ y. 1 < length y.pieces) same (c.is_last.ensures.more c.if-is_last.false) in
    rw (← c.self.view_is) (
    map-set c.args.number rs c.in-Ok.place c.drop_first.new.self place (c.drop_first.ensures.number ∙ item.number)
    ∙ first_gone (map_of rs) c.args.number x.pieces c.drop_first.new.self.pieces more c.drop_first.ensures.pieces
    ∙ sym (ap (without_first (map_of rs) c.args.number) (get_at c.args.number rs x item)))
