use Rattle.qs_conn.proofs.Hearing.{readable_untold}
use Rattle.qs_conn.proofs.endpoint.Endpoint.next_readable_untold.Goals as goal

pub returns : goal.returns
returns c = readable_untold _ c.args.self.now c.is_read_no_more.result c.args.told.now c.next_untold.result c.self.view_is c.is_read_no_more.ensures c.if-is_read_no_more.false c.next_untold.ensures
