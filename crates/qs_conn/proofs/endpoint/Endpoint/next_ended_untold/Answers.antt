use Rattle.qs_machine.specs.News.{IsEnded}
use Rattle.qs_conn.specs.Marks.{IsUntold}
use Rattle.qs_conn.proofs.Marked.{kinds_four}
use Rattle.qs_conn.proofs.endpoint.Endpoint.next_ended_untold.Goals as goal

pub returns : goal.returns
returns c =
    rw c.least_stream.ensures
    (kinds_four (IsUntold (IsEnded c.args.self.now) c.args.told.now) c.args.from _ _ _ _ c.next_ended_of.ensures.least c.next_ended_of-2.ensures.least c.next_ended_of-3.ensures.least c.next_ended_of-4.ensures.least)
