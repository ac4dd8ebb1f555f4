use Rattle.std.proofs.Common.{arith, rules, ◌-◌}
use Rattle.qs_conn.proofs.Asked.{each_stop}
use Rattle.qs_conn.proofs.endpoint.Endpoint.lose_each.Goals as goal

pub returns-in_err-lose_one : goal.returns-in_err-lose_one
returns-in_err-lose_one c =
    c.loop-number.invariant c.from_residual.result c.lose_one.new.self
    (each_stop c.args.first c.loop-number.number (c.loop-number.number - 1) c.loop-number.self c.lose_one.new.self _ c.from_residual.result (omega (arith, c.loop-number-test.true)) (omega (arith, c.loop-number-test.true)) c.in_err-lose_one.ensures (search (rules, c.from_residual.ensures)))
