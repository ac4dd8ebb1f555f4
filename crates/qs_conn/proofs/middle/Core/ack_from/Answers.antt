use Rattle.std.proofs.Common.{arith}
use Rattle.qs_conn.proofs.AckRuns.{from_row, row_err}
use Rattle.qs_conn.proofs.middle.Core.ack_from.Goals as goal

pub returns-in_err-ack_row-clause-err : goal.returns-in_err-ack_row-clause-err
returns-in_err-ack_row-clause-err c = row_err c.from_residual.result c.args.late c.in-Some.row.stream c.args.number c.args.self.now.outbox _ (let early = c.if-not-late.true in grind (arith, early)) c.in_err-ack_row.ensures.err c.in_err-ack_row.ensures.asks

pub returns-in-Some-clause-ok : goal.returns-in-Some-clause-ok
returns-in-Some-clause-ok c = from_row c.args.late c.in-Some.row.stream c.args.number c.args.low c.in-Some.row.first c.args.self.now.outbox _ (let early = c.if-not-late.true in grind (arith, early)) c.in-Some.ensures.within c.in_ok-ack_row.ensures.ok
