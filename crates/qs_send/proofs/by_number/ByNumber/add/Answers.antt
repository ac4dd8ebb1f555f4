use Rattle.std.proofs.Common.{◌∙◌, sym, ap}
use Rattle.std.specs.FinMap as fmap
use Rattle.qs_send.specs.ByNumber.{IsAt, map_of}
use Rattle.qs_send.specs.LostRecords.{with_piece}
use Rattle.qs_send.proofs.Outstanding.{IsItem, item_at, get_at, map-set, one_more, rising-set, room_at}
use Rattle.qs_send.proofs.by_number.ByNumber.add.Goals as goal

pub push-requires : goal.push-requires
push-requires c =
    let rs = c.self.inside.records.items in
    let place : IsAt c.args.number rs c.in-Ok.place = rw (← c.self.view_is) at c.in-Ok.ensures.found in
    let item = item_at c.args.number 0 rs c.in-Ok.place c.index_mut.result.now c.self.invariant.0 place c.index_mut.ensures.value in
    let item' : IsItem c.args.number c.args.self.now.records c.index_mut.result.now = rw (← c.self.view_is) item in
    room_at c.args.self.now c.args.number c.index_mut.result.now item' c.requires

pub invariant_of-self : goal.invariant_of-self
invariant_of-self c =
    let rs = c.self.inside.records.items in
    let place : IsAt c.args.number rs c.in-Ok.place = rw (← c.self.view_is) at c.in-Ok.ensures.found in
    let item = item_at c.args.number 0 rs c.in-Ok.place c.index_mut.result.now c.self.invariant.0 place c.index_mut.ensures.value in (
      rising-set c.args.number 0 rs c.in-Ok.place c.push.new.self c.self.invariant.0 place (c.push.ensures.number ∙ item.number) (one_more c.index_mut.result.now.pieces c.push.new.self.pieces c.args.piece c.push.ensures.pieces),
      c.self.invariant.1,
    )

pub returns-in-Ok : goal.returns-in-Ok
returns-in-Ok c =
    let rs = c.self.inside.records.items in
    let place : IsAt c.args.number rs c.in-Ok.place = rw (← c.self.view_is) at c.in-Ok.ensures.found in
    let item = item_at c.args.number 0 rs c.in-Ok.place c.index_mut.result.now c.self.invariant.0 place c.index_mut.ensures.value in
    rw (← c.self.view_is) (
    map-set c.args.number rs c.in-Ok.place c.push.new.self place (c.push.ensures.number ∙ item.number)
    ∙ ap (fmap.insert (map_of rs) c.args.number) c.push.ensures.pieces
    ∙ sym (ap (with_piece (map_of rs) c.args.number c.args.piece) (get_at c.args.number rs c.index_mut.result.now item)))
