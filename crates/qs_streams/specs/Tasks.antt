-- Of private contracts.
-- The row of each task.
use Rattle.std.specs.Prelude.{ℕ}
use Rattle.qs_streams.specs.declared.board.Task.{Task}
use Rattle.qs_streams.specs.declared.board.Task.TheVariants as tasks

abbrev pub row : Task → ℕ
row tasks.Readable = 0
row tasks.RecvEnded = 1
row tasks.Rising = 2
row tasks.ResetDue = 3
row tasks.StopDue = 4
row tasks.LimitDue = 5
row tasks.StopAcked = 6
row tasks.BlockDue = 7
row tasks.LimitAcked = 8
row tasks.BlockAcked = 9
row tasks.Bytes = 10
row tasks.Again = 11
row tasks.Writable = 12
row tasks.Funded = 13
row tasks.SendEnded = 14
row tasks.Over = 15
row tasks.FreshReadable = 16
row tasks.FreshStopped = 17
row tasks.FreshSent = 18
row tasks.FreshOver = 19
row tasks.FreshWritable = 20
row tasks.PeerBlocked = 21
