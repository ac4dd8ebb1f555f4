use Rattle.std.proofs.Common.{◌≡◌}
use Rattle.qs_send.specs.Lane.{allow_lane}
use Rattle.qs_conn.proofs.Tasks.{first_halves}
use Rattle.qs_conn.proofs.endpoint.Endpoint.allow_type.Given as goal

abbrev pub invariant-loop-index : goal.invariant-loop-index
invariant-loop-index l = l.self ≡ first_halves (λ m. allow_lane m l.limit) l.stream_type l.index l.fn.self
