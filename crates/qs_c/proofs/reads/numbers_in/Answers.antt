use Rattle.std.proofs.Common.{◌≡◌, ℕ, ◌≤◌, List, length, Some, sym, ap, arith}
use Rattle.std.proofs.lemmas.List.{length-drop}
use Rattle.qs_wire.specs.Varint.{varint_at, numbers_of}
use Rattle.qs_wire.proofs.Ranges.{count_next, count_none, none_from_default}
use Rattle.qs_c.proofs.reads.numbers_in.Goals as goal

pub loop-len-preserved : goal.loop-len-preserved
loop-len-preserved c =
    let rest = c.loop-len.rest.now in
    let x : ℕ × ℕ = (c.in-Some.field-0-0, c.in-Some.len) in
    let n = c.in-Some.len in
    let e : varint_at rest ≡ Some x = sym c.in-Some.ensures.exact in
    let within : n ≤ length rest = c.in-Some.ensures.within in
    let after = ap length c.split_at.ensures.back in
    let back = length-drop n rest in
    record {
      count = omega (arith, count_next rest x e, ap (λ (t : List ℕ). length (numbers_of t)) c.split_at.ensures.back, c.loop-len.invariant.count);
      counted = omega (arith, after, back, within, c.in-Some.ensures.positive, c.loop-len.invariant.counted);
    }

pub returns : goal.returns
returns c =
    let none = count_none c.loop-len.rest.now (none_from_default (varint_at c.loop-len.rest.now) c.read_varint.result c.read_varint.ensures.exact c.in_default.not-Some) in
    omega (arith, none, c.loop-len.invariant.count)
