use Rattle.qs_conn.proofs.Marked.{next_stream}
use Rattle.qs_conn.proofs.marks.Marks.next_stream.Goals as goal

pub returns-clause-least : goal.returns-clause-least
returns-clause-least c = rw c.numbered.ensures.value (next_stream c.args.self.now c.args.stream_type c.args.from _ c.requires.stream_type c.index_from.ensures c.next.result c.next.ensures.next)
