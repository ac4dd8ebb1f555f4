use Rattle.std.proofs.Common.{◌≡◌, ℕ, ◌-◌, ◌/◌, length, sym, ap, arith}
use Rattle.std.specs.List.{flat_map}
use Rattle.std.proofs.lemmas.List.{length-append}
use Rattle.qs_wire.specs.Varint.{short, short_len, numbers_of}
use Rattle.qs_wire.proofs.Numbers.{length-short}
use Rattle.qs_wire.proofs.writing.Part.len.Goals as goal

pub returns-in-Number : goal.returns-in-Number
returns-in-Number c = rw (c.varint_len.ensures.exact, c.in-Number.is) (sym (length-short c.in-Number.value))

pub returns-in-Counted : goal.returns-in-Counted
returns-in-Counted c =
    let n : ℕ = length c.in-Counted.bytes.now in
    rw c.in-Counted.is (omega (arith, c.varint_len-in-Counted.ensures.exact, length-short n, length-append (short n) c.in-Counted.bytes.now))

pub returns-in-Ranges : goal.returns-in-Ranges
returns-in-Ranges c =
    let v = numbers_of c.in-Ranges.numbers.now in
    let fit = rw c.in-Ranges.is at c.requires in
    let half : c.shortest-count.result.0 / 2 ≡ (length v - 1) / 2 = omega (arith, c.shortest-count.ensures.count, fit.odd) in
    rw c.in-Ranges.is (omega (arith, c.varint_len-in-Ranges.ensures.exact, c.shortest-count.ensures.len, ap short_len half, length-short ((length v - 1) / 2), length-append (short ((length v - 1) / 2)) (flat_map short v)))
