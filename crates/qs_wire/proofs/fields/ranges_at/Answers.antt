use Rattle.std.proofs.Common.{ℕ, List, ◌+◌, ◌*◌, sym, ap, ◌∙◌, arith}
use Rattle.qs_wire.specs.Reading.{number_at, numbers_at, ranges_at}
use Rattle.qs_wire.proofs.FieldLaws.{bind_at, number_takes, done}
use Rattle.qs_wire.proofs.Ranges.{skipped, falls_is}
use Rattle.qs_wire.proofs.fields.ranges_at.Goals as goal

pub returns-clause-gives : goal.returns-clause-gives
unfolding ranges_at
returns-clause-gives c =
    let pairs = c.in_ok-pairs.pairs in
    let numbers = c.in_ok-pairs.numbers.now in
    let rest = c.in_ok-left.rest.now in
    let s = c.in_ok-left.ensures.skips in
    let t = number_takes c.args.bytes.now (pairs, numbers) (λ i. omega (arith, c.type_inv.bytes i)) c.in_ok-pairs.ensures.gives in
    bind_at (number_at c.args.bytes.now) (λ n. numbers_at (2 * n.0 + 1) n.1) (pairs, numbers) c.in_ok-pairs.ensures.gives
    ∙ s.1 ∙ ap (λ (vs : List ℕ). done (vs, rest)) (sym (skipped (2 * pairs + 1) numbers s.0 rest t.rest_fits s.1))

pub returns-clause-falls : goal.returns-clause-falls
returns-clause-falls c =
    let pairs = c.in_ok-pairs.pairs in
    let numbers = c.in_ok-pairs.numbers.now in
    let s = c.in_ok-left.ensures.skips in
    let t = number_takes c.args.bytes.now (pairs, numbers) (λ i. omega (arith, c.type_inv.bytes i)) c.in_ok-pairs.ensures.gives in
    falls_is c.args.largest c.in_ok-left.left s.0 _ s.2 (skipped (2 * pairs + 1) numbers s.0 c.in_ok-left.rest.now t.rest_fits s.1)
