use Rattle.std.proofs.Common.{sym, ap, ◌∙◌}
use Rattle.qs_conn.specs.Marks.{is_marked}
use Rattle.qs_conn.proofs.Hearing.{readable_at}
use Rattle.qs_conn.proofs.endpoint.Endpoint.is_readable.Goals as goal

pub returns : goal.returns
returns c =
    readable_at _ c.args.self.now c.is_read_no_more.result c.has.result c.args.stream c.self.view_is c.is_read_no_more.ensures c.if-is_read_no_more.false (c.has.ensures ∙ ap (is_marked c.marks-readable.result.now) c.index_of.ensures.value ∙ c.marks-readable.ensures c.args.stream (sym c.type_of.ensures.value))
