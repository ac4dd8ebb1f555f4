use Rattle.std.proofs.Common.{◌+◌, arith, false}
use Rattle.qs_conn.specs.Middle.{end_of}
use Rattle.qs_conn.specs.Filling.{all_items}
use Rattle.qs_conn.proofs.MadePackets.{tells_more}
use Rattle.qs_conn.proofs.Places.{found_small, sort_none, sort_some, sort_there, walk_end, walk_to}
use Rattle.qs_conn.proofs.middle.Core.has_item.Goals as goal

pub sort_at-requires : goal.sort_at-requires
sort_at-requires c = (found_small c.places-places.result c.loop-place.from c.in-Some.place c.lowest_bit.result c.lowest_bit.ensures c.in-Some.is c.places-places.ensures.few).1

pub has_sort-requires-clause-at : goal.has_sort-requires-clause-at
has_sort-requires-clause-at c = sort_there c.in-Some.place c.sort_at.result c.sort_at.ensures

pub returns-then-has_sort : goal.returns-then-has_sort
returns-then-has_sort c = λ e. (
    let there = end_of c.args.self.now e in
    let from = c.loop-place.from in
    let place = c.in-Some.place in
    let here = tells_more there false (from, 0) (place, 0) (walk_to there c.places-places.result from (λ s. c.places-places.ensures.idle s e) place c.lowest_bit.result c.lowest_bit.ensures c.in-Some.is) (c.loop-place.invariant.none e) in
    sort_some there c.has_sort.result place c.sort_at.result c.sort_at.ensures (c.has_sort.ensures e) here c.if-has_sort.true)

pub loop-place-smaller : goal.loop-place-smaller
loop-place-smaller c =
    let found = found_small c.places-places.result c.loop-place.from c.in-Some.place c.lowest_bit.result c.lowest_bit.ensures c.in-Some.is c.places-places.ensures.few in
    omega (arith, found)

pub loop-place-preserved : goal.loop-place-preserved
loop-place-preserved c =
    let from = c.loop-place.from in
    let place = c.in-Some.place in
    let found = found_small c.places-places.result from place c.lowest_bit.result c.lowest_bit.ensures c.in-Some.is c.places-places.ensures.few in
    record {
      small = omega (arith, found);
      none = λ e. (
          let there = end_of c.args.self.now e in
          let here = tells_more there false (from, 0) (place, 0) (walk_to there c.places-places.result from (λ s. c.places-places.ensures.idle s e) place c.lowest_bit.result c.lowest_bit.ensures c.in-Some.is) (c.loop-place.invariant.none e) in
          sort_none there c.has_sort.result place c.sort_at.result c.sort_at.ensures (c.has_sort.ensures e) here c.if-has_sort.false);
    }

pub returns : goal.returns
returns c = λ e.
    let there = end_of c.args.self.now e in
    tells_more there false (c.loop-place.from, 0) all_items (walk_end there c.places-places.result c.loop-place.from (λ s. c.places-places.ensures.idle s e) c.lowest_bit.result c.lowest_bit.ensures c.in_default.is) (c.loop-place.invariant.none e)
