use Rattle.std.proofs.Common.{◌≡◌, length, true, is_some, arith}
use Rattle.qs_send.proofs.Slots.{in_slots, lent_found, lent_over, lends_back}
use Rattle.qs_send.proofs.halves.SendHalves.full_mut.Goals as goal

pub index-requires : goal.index-requires
index-requires c = let t = in_slots _ _ _ _ c.args.index c.self.view_is c.requires in omega (arith, t)

pub returns : goal.returns
returns c =
    let kind = c.self.inside.stream_type in
    let full = c.self.inside.full.items in
    let slots = c.self.inside.slots.items in
    let s = c.index.result.now in
    let p = c.place_or-place.result in
    let are = c.self.invariant.1 in
    let t = in_slots _ _ _ _ c.args.index c.self.view_is c.requires in
    let over : is_some s.written ≡ true → p ≡ length full = λ some. (let e = c.place_or-place.ensures.over some in omega (arith, e, c.len-none.ensures)) in
    rw (← c.self.view_is) (
      lends_back kind full slots c.args.index p s are t c.index.ensures over c.place_or-place.ensures.full c.get_mut.result c.get_mut.ensures.item,
      record {
        writes_back = tt;
        found = lent_found kind full slots c.args.index p s are t c.index.ensures over c.place_or-place.ensures.full c.get_mut.result c.get_mut.ensures.item;
        over = lent_over kind full slots c.args.index p s are t c.index.ensures over c.place_or-place.ensures.full c.get_mut.result c.get_mut.ensures.item;
      },
    )
