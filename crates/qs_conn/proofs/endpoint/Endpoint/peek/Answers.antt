use Rattle.std.proofs.Common.{sym, ◌∙◌}
use Rattle.qs_conn.proofs.Hearing.{peek_ok}
use Rattle.qs_conn.proofs.endpoint.Endpoint.peek.Goals as goal

pub returns : goal.returns
returns c = record { call = (peek_ok c.args.self.now c.args.stream c.unwrap-half.result.now c.peek.result (sym c.no_reader.ensures ∙ c.in_default.is) (rw (← c.self.view_is) (rw (c.unwrap-half.ensures, c.of.ensures) at c.half.ensures.found)) c.peek.ensures, λ i. c.args.self.now) }
