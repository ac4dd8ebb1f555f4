use Rattle.std.proofs.Common.{refl}
use Rattle.qs_machine.specs.Sums.{tables_of}
use Rattle.qs_conn.specs.Tasks.{IsSought}
use Rattle.qs_conn.proofs.Hearing.{lanes_sought}
use Rattle.qs_conn.proofs.Marked.{kinds_four}
use Rattle.qs_conn.proofs.outbox.Outbox.next_sought.Goals as goal

pub returns : goal.returns
returns c =
    let t = tables_of c.self.inside.types in
    let least = kinds_four (IsSought c.args.search t c.args.told.now) 0 _ _ _ _ c.next_sought_of.ensures.least c.next_sought_of-2.ensures.least c.next_sought_of-3.ensures.least c.next_sought_of-4.ensures.least in
    lanes_sought c.args.search c.args.told.now _ c.args.self.now t 0 c.least_stream.result c.self.view_is refl (rw c.least_stream.ensures least)
