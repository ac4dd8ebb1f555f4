use Rattle.std.proofs.Common.{◌≤◌, ◌++◌, ◌∷◌, [], length, arith}
use Rattle.std.proofs.lemmas.Result.{err_from_is_err_and}
use Rattle.qs_wire.specs.Reading.{numbers_at}
use Rattle.qs_wire.proofs.Ranges.{goes_on, ends, is_done, none_yet, taken_more}
use Rattle.qs_wire.proofs.fields.skip_numbers.Goals as goal

pub loop-init : goal.loop-init
loop-init c = record { shorter = omega arith; read = ([], none_yet c.args.count c.args.bytes.now, omega arith) }

pub returns-in_err-value-clause-skips : goal.returns-in_err-value-clause-skips
returns-in_err-value-clause-skips c =
    let p = err_from_is_err_and c.from_residual.result c.from_residual.ensures.1 in
    rw (p.1, p.2) (ends c.in_err-value.field-0.0 c.loop.invariant.read.0 c.args.count c.loop.counter c.loop.rest.now (numbers_at c.args.count c.args.bytes.now) c.loop-test.true c.in_err-value.ensures.gives c.loop.invariant.read.1)

pub loop-preserved : goal.loop-preserved
loop-preserved c =
    let within : length c.in_ok-value.after.now ≤ length c.loop.rest.now = c.in_ok-value.ensures.shorter in
    record {
      shorter = omega (arith, within, c.loop.invariant.shorter);
      read = (c.loop.invariant.read.0 ++ c.in_ok-value.value ∷ [], goes_on c.loop.invariant.read.0 c.args.count c.loop.counter c.loop.rest.now c.in_ok-value.value c.in_ok-value.after.now (numbers_at c.args.count c.args.bytes.now) c.loop-test.true c.in_ok-value.ensures.gives c.loop.invariant.read.1, omega (arith, taken_more c.loop.invariant.read.0 c.in_ok-value.value, c.saturating_sub-left.ensures, c.loop.invariant.read.2));
    }

pub returns-clause-skips : goal.returns-clause-skips
returns-clause-skips c = (c.loop.invariant.read.0, is_done c.loop.invariant.read.0 c.args.count c.loop.counter c.loop.rest.now (numbers_at c.args.count c.args.bytes.now) c.loop-test.false c.loop.invariant.read.1, c.loop.invariant.read.2)
