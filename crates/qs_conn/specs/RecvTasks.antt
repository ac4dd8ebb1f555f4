-- Of private contracts.
-- Which receiving halves have an answer for their owner, and the marks of those that may.
use Rattle.std.specs.Prelude.{◌≡◌, Bool, true, false, List, Option}
use Rattle.qs_recv.specs.Lane.{RecvLane}
use Rattle.qs_recv.specs.News.{is_readable}
use Rattle.qs_machine.specs.Credit.{recv_ended}
use Rattle.qs_conn.specs.declared.recv_marks.RecvTask.{RecvTask}
use Rattle.qs_conn.specs.declared.recv_marks.RecvTask.TheVariants as tasks
use Rattle.qs_conn.specs.declared.recv_marks.RecvMarks.{RecvMarks}
use Rattle.qs_conn.specs.Marks.{AreMarksFor, one_has}

-- whether a lane has an answer of a kind: something to read, or its end (RFC 9000, section 3.2)
abbrev pub has : RecvTask → RecvLane → Bool
has tasks.Readable l = is_readable l
has tasks.Ended l = recv_ended l

-- the marks for a task
abbrev pub marks_of : RecvMarks → RecvTask → List Bool
marks_of marks tasks.Readable = marks.readable
marks_of marks tasks.Ended = marks.ended

-- a lane that has no answer of a kind
abbrev pub HasNone : RecvTask → RecvLane → Type 0
HasNone t l = has t l ≡ false

abbrev pub HasOne : RecvTask → RecvLane → Type 0
HasOne t l = has t l ≡ true

-- the marks tell which lanes have an answer
abbrev pub AreNoted : List RecvLane → RecvMarks → Type 0
AreNoted lanes marks = (t : RecvTask) → AreMarksFor (has t) lanes (marks_of marks t)

-- whether there is a lane that has an answer of a kind
abbrev pub has_one : RecvTask → Option RecvLane → Bool
has_one t = one_has (has t)
