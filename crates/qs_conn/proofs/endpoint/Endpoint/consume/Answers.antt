use Rattle.std.proofs.Common.{sym, ◌∙◌}
use Rattle.qs_conn.proofs.Hearing.{receiver_open_still}
use Rattle.qs_conn.proofs.endpoint.Endpoint.consume.Goals as goal

pub skip-next-requires : goal.skip-next-requires
skip-next-requires c = receiver_open_still c.args.self.now c.skip-read.new.self c.args.stream c.args.most (sym c.no_reader.ensures ∙ c.in_default.is) c.skip-read.ensures.after
