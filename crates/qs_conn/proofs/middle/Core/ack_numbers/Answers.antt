use Rattle.std.proofs.Common.{rules}
use Rattle.qs_conn.proofs.Cores.{streams_on}
use Rattle.qs_conn.proofs.AckRuns.{from_numbers}
use Rattle.qs_conn.proofs.middle.Core.ack_numbers.Goals as goal

pub loop-number-preserved : goal.loop-number-preserved
loop-number-preserved c = search (rules, streams_on, from_numbers)
