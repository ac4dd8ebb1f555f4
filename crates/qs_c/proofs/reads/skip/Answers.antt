use Rattle.std.proofs.Common.{◌≡◌, ℕ, ◌-◌, ◌+◌, List, length, Some, sym, ap, arith}
use Rattle.std.proofs.lemmas.List.{length-drop}
use Rattle.qs_wire.specs.Varint.{varint_at}
use Rattle.qs_wire.proofs.Ranges.{none_from_default}
use Rattle.qs_c.specs.Places.{skip_of}
use Rattle.qs_c.proofs.Laid.{skip_none, skip_zero, skip_from}
use Rattle.qs_c.proofs.reads.skip.Goals as goal

pub returns-in_default-clause-exact : goal.returns-in_default-clause-exact
returns-in_default-clause-exact c =
    let none = none_from_default (varint_at c.loop.rest.now) c.read_varint.result c.read_varint.ensures.exact c.in_default.not-Some in
    omega (arith, skip_none (c.args.count - c.loop.counter) c.loop.rest.now none, c.loop.invariant.bytes_so_far)

pub loop-preserved : goal.loop-preserved
loop-preserved c =
    let rest = c.loop.rest.now in
    let x : ℕ × ℕ = (c.in-Some.field-0-0, c.in-Some.len) in
    let e : varint_at rest ≡ Some x = sym c.in-Some.ensures.exact in
    let more = skip_from c.args.count c.loop.counter rest x c.loop-test.true e in
    record {
      bytes_so_far = omega (arith, more, ap (λ (t : List ℕ). skip_of (c.args.count - (c.loop.counter + 1)) t) c.split_at.ensures.back, c.loop.invariant.bytes_so_far);
      within = omega (arith, ap length c.split_at.ensures.back, length-drop c.in-Some.len rest, c.in-Some.ensures.within, c.loop.invariant.within);
    }

pub returns-clause-exact : goal.returns-clause-exact
returns-clause-exact c =
    let none : c.args.count - c.loop.counter ≡ 0 = omega (arith, c.loop-test.false) in
    omega (arith, ap (λ (m : ℕ). skip_of m c.loop.rest.now) none, skip_zero c.loop.rest.now, c.loop.invariant.bytes_so_far)
