use Rattle.std.proofs.Common.{◌≡◌, ℕ, ◌≤◌, List, length, take, Some, sym, ap, arith}
use Rattle.std.specs.List.{flat_map}
use Rattle.std.proofs.lemmas.List.{length-drop, length-take-le}
use Rattle.qs_wire.specs.Varint.{varint_at, short, numbers_of}
use Rattle.qs_wire.proofs.Numbers.{length-short, short_least}
use Rattle.qs_wire.proofs.Ranges.{count_next, count_none, shortest_none, shortest_len, none_from_default}
use Rattle.qs_wire.proofs.writing.shortest.Goals as goal

pub loop-value-preserved : goal.loop-value-preserved
loop-value-preserved c =
    let rest = c.loop-value.rest.now in
    let v = c.in-Some.value in
    let n = c.in-Some.len in
    let e : varint_at rest ≡ Some (v, n) = sym c.in-Some.ensures.exact in
    let within : n ≤ length rest = c.in-Some.ensures.within in
    let least = short_least v (take n rest) c.in-Some.ensures.found in
    let front = length-take-le n rest within in
    let after = ap length c.split_at.ensures.back in
    let back = length-drop n rest in
    record {
      count = omega (arith, count_next rest (v, n) e, ap (λ (t : List ℕ). length (numbers_of t)) c.split_at.ensures.back, c.loop-value.invariant.count);
      len = omega (arith, shortest_len rest (v, n) e, ap (λ (t : List ℕ). length (flat_map short (numbers_of t))) c.split_at.ensures.back, length-short v, c.varint_len-shortest_len.ensures.exact, c.loop-value.invariant.len);
      counted = omega (arith, after, back, within, c.in-Some.ensures.positive, c.loop-value.invariant.counted);
      within = omega (arith, after, back, within, least, front, length-short v, c.varint_len-shortest_len.ensures.exact, c.loop-value.invariant.within);
    }

pub returns-clause-count : goal.returns-clause-count
returns-clause-count c =
    let none = count_none c.loop-value.rest.now (none_from_default (varint_at c.loop-value.rest.now) c.read_varint.result c.read_varint.ensures.exact c.in_default.not-Some) in
    omega (arith, none, c.loop-value.invariant.count)

pub returns-clause-len : goal.returns-clause-len
returns-clause-len c =
    let none = ap length (shortest_none c.loop-value.rest.now (none_from_default (varint_at c.loop-value.rest.now) c.read_varint.result c.read_varint.ensures.exact c.in_default.not-Some)) in
    omega (arith, none, c.loop-value.invariant.len)
