use Rattle.std.proofs.Common.{◌∙◌, ◌<◌, sym, ap, subst, length}
use Rattle.std.specs.FinMap as fmap
use Rattle.qs_send.specs.ByNumber.{IsAt, map_of}
use Rattle.qs_send.proofs.Outstanding.{item_at, get_at, map-set, insert_same, rising-set, reserved_at, room_set, room_gone}
use Rattle.qs_send.proofs.by_number.ByNumber.reserve.Goals as goal

pub invariant_of-self : goal.invariant_of-self
invariant_of-self c =
    let rs = c.self.inside.records.items in
    let place : IsAt c.args.number rs c.in-Ok.place = rw (← c.self.view_is) at c.in-Ok.ensures.found in
    let item = item_at c.args.number 0 rs c.in-Ok.place c.index_mut.result.now c.self.invariant.0 place c.index_mut.ensures.value in (
      rising-set c.args.number 0 rs c.in-Ok.place c.reserve.new.self c.self.invariant.0 place (c.reserve.ensures.number ∙ item.number) (subst (λ ps. 0 < length ps) (sym c.reserve.ensures.pieces) item.some),
      c.self.invariant.1,
    )

pub returns-in-Ok-clause-same : goal.returns-in-Ok-clause-same
returns-in-Ok-clause-same c =
    let rs = c.self.inside.records.items in
    let place : IsAt c.args.number rs c.in-Ok.place = rw (← c.self.view_is) at c.in-Ok.ensures.found in
    let item = item_at c.args.number 0 rs c.in-Ok.place c.index_mut.result.now c.self.invariant.0 place c.index_mut.ensures.value in
    rw (← c.self.view_is) (
    map-set c.args.number rs c.in-Ok.place c.reserve.new.self place (c.reserve.ensures.number ∙ item.number)
    ∙ ap (fmap.insert (map_of rs) c.args.number) c.reserve.ensures.pieces
    ∙ insert_same (map_of rs) c.args.number c.index_mut.result.now.pieces (get_at c.args.number rs c.index_mut.result.now item))

pub returns-in-Ok-clause-ok : goal.returns-in-Ok-clause-ok
returns-in-Ok-clause-ok c =
    let rs = c.self.inside.records.items in
    let place : IsAt c.args.number rs c.in-Ok.place = rw (← c.self.view_is) at c.in-Ok.ensures.found in
    let item = item_at c.args.number 0 rs c.in-Ok.place c.index_mut.result.now c.self.invariant.0 place c.index_mut.ensures.value in
    reserved_at c.reserve.result c.args.number _ rs c.in-Ok.place c.reserve.new.self place (c.reserve.ensures.number ∙ item.number) c.reserve.ensures.ok

pub returns-in-Ok-clause-more : goal.returns-in-Ok-clause-more
returns-in-Ok-clause-more c =
    let rs = c.self.inside.records.items in
    let place : IsAt c.args.number rs c.in-Ok.place = rw (← c.self.view_is) at c.in-Ok.ensures.found in
    let item = item_at c.args.number 0 rs c.in-Ok.place c.index_mut.result.now c.self.invariant.0 place c.index_mut.ensures.value in
    rw (← c.self.view_is) (room_set c.args.number _ rs c.in-Ok.place c.index_mut.result.now c.reserve.new.self place (c.reserve.ensures.number ∙ item.number) item c.reserve.ensures.more)

pub returns-in-Ok-clause-stands : goal.returns-in-Ok-clause-stands
returns-in-Ok-clause-stands c =
    let rs = c.self.inside.records.items in
    let place : IsAt c.args.number rs c.in-Ok.place = rw (← c.self.view_is) at c.in-Ok.ensures.found in
    let item = item_at c.args.number 0 rs c.in-Ok.place c.index_mut.result.now c.self.invariant.0 place c.index_mut.ensures.value in
    rw (← c.self.view_is) (room_gone c.reserve.result c.args.number _ rs c.index_mut.result.now item c.reserve.ensures.stands)
