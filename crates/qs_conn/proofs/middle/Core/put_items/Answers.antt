use Rattle.std.proofs.Common.{◌+◌, ◌∙◌, rules, arith, subst, sym, take, length}
use Rattle.std.proofs.lemmas.Bool.{true≢false}
use Rattle.qs_conn.specs.Middle.{end_of}
use Rattle.qs_conn.specs.Filling.{all_items, Stage}
use Rattle.qs_conn.proofs.Cores.{fills_on, fills_within}
use Rattle.qs_conn.proofs.MadePackets.{memory_less, stage_full, stage_more}
use Rattle.qs_conn.proofs.Places.{found_small, own_all, own_most, own_next, own_room, sort_is, sort_there, walk_end, walk_to}
use Rattle.qs_conn.proofs.middle.Core.put_items.Goals as goal

pub returns-then-not-wish-clause-stage : goal.returns-then-not-wish-clause-stage
returns-then-not-wish-clause-stage c = λ room old e asked at start. search (rules, true≢false)

pub sort_at-requires : goal.sort_at-requires
sort_at-requires c = (found_small c.places-places.result c.loop-place.from c.in-Some.place c.lowest_bit.result c.lowest_bit.ensures c.in-Some.is c.places-places.ensures.few).1

pub put_sort-packet-requires-clause-at : goal.put_sort-packet-requires-clause-at
put_sort-packet-requires-clause-at c = sort_there c.in-Some.place c.sort_at.result c.sort_at.ensures

pub put_sort-packet-requires-clause-memory : goal.put_sort-packet-requires-clause-memory
put_sort-packet-requires-clause-memory c =
    let found = found_small c.places-places.result c.loop-place.from c.in-Some.place c.lowest_bit.result c.lowest_bit.ensures c.in-Some.is c.places-places.ensures.few in
    memory_less c.loop-place.self _ _ _ _ (own_room c.loop-place.from c.in-Some.place c.sort_at.result c.sort_at.ensures found.0) (c.loop-place.invariant.filled.memory 6 c.requires.memory)

pub returns-then-packet-clause-stage : goal.returns-then-packet-clause-stage
returns-then-packet-clause-stage c = λ room old e asked at start.
    let wish = c.args.wish.now in
    let from = c.loop-place.from in
    let place = c.in-Some.place in
    let inside = end_of c.loop-place.self e in
    let text = take c.loop-place.packet.len c.loop-place.out in
    let here = stage_more wish room old text inside c.loop-place.packet.is_full (from, 0) (place, 0) (walk_to inside c.places-places.result from (λ s. c.loop-place.invariant.idle s e) place c.lowest_bit.result c.lowest_bit.ensures c.in-Some.is) (c.loop-place.invariant.stage room old e at start) in
    let there = subst (λ k. Stage wish room old text inside c.loop-place.packet.is_full (k, 0)) (sym (sort_is place c.sort_at.result c.sort_at.ensures)) here in
    stage_full wish room old (take c.put_sort-packet.result.len c.put_sort-packet.new.out) (end_of c.put_sort-packet.new.self e) c.put_sort-packet.result.is_full _ all_items c.if-packet.true
    (c.put_sort-packet.ensures.stage wish room old e (at ∙ sym c.loop-place.invariant.filled.room) there)

pub returns-then-packet-clause-filled : goal.returns-then-packet-clause-filled
returns-then-packet-clause-filled c =
    let found = found_small c.places-places.result c.loop-place.from c.in-Some.place c.lowest_bit.result c.lowest_bit.ensures c.in-Some.is c.places-places.ensures.few in
    fills_within _ _ _ _ _ _ _ 6 (own_all c.loop-place.from c.in-Some.place c.sort_at.result c.sort_at.ensures found.0) (fills_on _ _ _ _ _ _ _ _ _ _ _ c.loop-place.invariant.filled c.put_sort-packet.ensures.filled)

pub loop-place-smaller : goal.loop-place-smaller
loop-place-smaller c =
    let found = found_small c.places-places.result c.loop-place.from c.in-Some.place c.lowest_bit.result c.lowest_bit.ensures c.in-Some.is c.places-places.ensures.few in
    omega (arith, found)

pub loop-place-preserved : goal.loop-place-preserved
loop-place-preserved c =
    let wish = c.args.wish.now in
    let from = c.loop-place.from in
    let place = c.in-Some.place in
    let found = found_small c.places-places.result from place c.lowest_bit.result c.lowest_bit.ensures c.in-Some.is c.places-places.ensures.few in
    record {
      small = omega (arith, found);
      stage = λ room old e at start. (
          let inside = end_of c.loop-place.self e in
          let text = take c.loop-place.packet.len c.loop-place.out in
          let here = stage_more wish room old text inside c.loop-place.packet.is_full (from, 0) (place, 0) (walk_to inside c.places-places.result from (λ s. c.loop-place.invariant.idle s e) place c.lowest_bit.result c.lowest_bit.ensures c.in-Some.is) (c.loop-place.invariant.stage room old e at start) in
          let same = sort_is place c.sort_at.result c.sort_at.ensures in
          let there = subst (λ k. Stage wish room old text inside c.loop-place.packet.is_full (k, 0)) (sym same) here in
          subst (λ k. Stage wish room old (take c.put_sort-packet.result.len c.put_sort-packet.new.out) (end_of c.put_sort-packet.new.self e) c.put_sort-packet.result.is_full (k + 1, 0)) same
          (c.put_sort-packet.ensures.stage wish room old e (at ∙ sym c.loop-place.invariant.filled.room) there));
      idle = λ s e off. c.put_sort-packet.ensures.still s e (c.loop-place.invariant.idle s e off);
      filled = fills_within _ _ _ _ _ _ _ _ (own_next from place c.sort_at.result c.sort_at.ensures found.0) (fills_on _ _ _ _ _ _ _ _ _ _ _ c.loop-place.invariant.filled c.put_sort-packet.ensures.filled);
    }

pub returns-clause-stage : goal.returns-clause-stage
returns-clause-stage c = λ room old e asked at start.
    let inside = end_of c.loop-place.self e in
    stage_more c.args.wish.now room old (take c.loop-place.packet.len c.loop-place.out) inside c.loop-place.packet.is_full (c.loop-place.from, 0) all_items (walk_end inside c.places-places.result c.loop-place.from (λ s. c.loop-place.invariant.idle s e) c.lowest_bit.result c.lowest_bit.ensures c.in_default.is) (c.loop-place.invariant.stage room old e at start)

pub returns-clause-filled : goal.returns-clause-filled
returns-clause-filled c = fills_within _ _ _ _ _ _ _ 6 (own_most c.loop-place.from) c.loop-place.invariant.filled
