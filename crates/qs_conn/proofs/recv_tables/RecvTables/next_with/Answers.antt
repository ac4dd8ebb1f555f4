use Rattle.qs_machine.specs.News.{IsHeld}
use Rattle.qs_conn.specs.RecvTasks.{HasOne, has}
use Rattle.qs_conn.proofs.Marked.{kinds_four, next_passes}
use Rattle.qs_conn.proofs.recv_tables.RecvTables.next_with.Goals as goal

pub returns : goal.returns
returns c =
    rw c.least_stream.ensures
    (kinds_four (IsHeld (HasOne c.args.task) c.args.self.now) c.args.from _ _ _ _ (next_passes (has c.args.task) _ _ 0 c.marks.ensures c.args.from _ c.next_stream.ensures.least) (next_passes (has c.args.task) _ _ 1 c.marks-2.ensures c.args.from _ c.next_stream-2.ensures.least)
    (next_passes (has c.args.task) _ _ 2 c.marks-3.ensures c.args.from _ c.next_stream-3.ensures.least) (next_passes (has c.args.task) _ _ 3 c.marks-4.ensures c.args.from _ c.next_stream-4.ensures.least))
