use Rattle.std.proofs.Common.{refl}
use Rattle.std.proofs.lemmas.Bool.{both_ways}
use Rattle.qs_conn.proofs.MadePackets.{has_none}
use Rattle.qs_conn.proofs.endpoint.Endpoint.unfilled.Goals as goal

pub returns-clause-by : goal.returns-clause-by
returns-clause-by c = λ room. ((λ enough. has_none _ _ (λ some. both_ways c.has_more.result c.if-has_more.false (c.has_more.ensures.1 some))), refl, refl)
