use Rattle.std.proofs.Common.{◌∙◌}
use Rattle.qs_machine.proofs.Taken.{out_there}
use Rattle.qs_conn.proofs.Cores.{kept_streams}
use Rattle.qs_conn.proofs.endpoint.Endpoint.on_max_stream_data.Goals as goal

pub allow-requires-clause-open : goal.allow-requires-clause-open
allow-requires-clause-open c = out_there c.args.self.now _ c.args.stream c.requires.passed (c.self.view_is ∙ c.in_ok-open_by_peer.ensures.ok)

pub invariant_of-self : goal.invariant_of-self
invariant_of-self c = kept_streams _ _ _ _ _ _ c.self.invariant c.allow.new.self c.allow.ensures.rest c.allow.ensures.streams c.allow.ensures.ended
