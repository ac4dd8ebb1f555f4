use Rattle.std.proofs.Common.{refl}
use Rattle.qs_machine.specs.Filling.{WantedGoes, still_asked}
use Rattle.qs_conn.proofs.MadePackets.{tells_at}
use Rattle.qs_conn.proofs.endpoint.Endpoint.has_more.Goals as goal

pub returns : goal.returns
returns c = tells_at _ c.args.self.now c.self.inside.core c.has_wanted.result (WantedGoes (still_asked c.args.want.now c.args.left)) c.self.view_is refl c.has_wanted.ensures
