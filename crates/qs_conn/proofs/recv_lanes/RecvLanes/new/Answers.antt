use Rattle.std.proofs.Common.{rules}
use Rattle.std.proofs.lemmas.Option.{none-some}
use Rattle.qs_conn.proofs.recv_lanes.RecvLanes.new.Goals as goal

pub invariant_of-result : goal.invariant_of-result
invariant_of-result c = search (rules, none-some)
