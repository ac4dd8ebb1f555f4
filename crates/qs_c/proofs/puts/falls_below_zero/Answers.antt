use Rattle.std.proofs.Common.{◌≡◌, ℕ, ◌+◌, List, drop, Option, Some, None, sym, ap, arith}
use Rattle.std.proofs.lemmas.Bool.{lt-ltb, le-ltb}
use Rattle.qs_wire.specs.Varint.{varint_at, numbers_of}
use Rattle.qs_wire.specs.Layout.{taken}
use Rattle.qs_wire.proofs.Ranges.{numbers_of-next, numbers_of-none, none_from_default}
use Rattle.qs_c.proofs.puts.falls_below_zero.Goals as goal

-- a number takes itself and one of what is left
taken_next : (bytes : List ℕ) (x : ℕ × ℕ) → varint_at bytes ≡ Some x → taken (numbers_of bytes) ≡ (x.0 + 1) + taken (numbers_of (drop x.1 bytes))
taken_next bytes x e = ap taken (numbers_of-next bytes x e)

taken_none : (bytes : List ℕ) → varint_at bytes ≡ None → taken (numbers_of bytes) ≡ 0
taken_none bytes e = ap taken (numbers_of-none bytes e)

pub returns-then-value-left : goal.returns-then-value-left
returns-then-value-left c =
    let more = taken_next c.loop-value.rest.now (c.in-Some.value, c.in-Some.len) (sym c.in-Some.ensures.exact) in
    sym (lt-ltb _ _ (omega (arith, more, c.loop-value.invariant, c.if-value-left.true)))

pub loop-value-preserved : goal.loop-value-preserved
loop-value-preserved c =
    let more = taken_next c.loop-value.rest.now (c.in-Some.value, c.in-Some.len) (sym c.in-Some.ensures.exact) in
    let same = ap (λ (t : List ℕ). taken (numbers_of t)) c.split_at.ensures.back in
    omega (arith, more, same, c.loop-value.invariant, c.if-value-left.false)

pub returns : goal.returns
returns c =
    let none = taken_none c.loop-value.rest.now (none_from_default (varint_at c.loop-value.rest.now) c.read_varint.result c.read_varint.ensures.exact c.in_default.not-Some) in
    sym (le-ltb _ _ (omega (arith, none, c.loop-value.invariant)))
