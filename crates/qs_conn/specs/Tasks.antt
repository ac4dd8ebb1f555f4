-- Of private contracts.
-- Which sending halves have something for a packet or for their owner, by what it is, and those that have not.
use Rattle.std.specs.Prelude.{if◌then◌else◌, ◌≡◌, ℕ, ◌≤◌, ◌<◌, ◌⊎◌, ◌&&◌, ◌||◌, ◌==◌, nat_lt, Bool, true, false, List, Some, is_some, ⊤}
use Rattle.std.specs.List.{list_any, range_with_len}
use Rattle.std.specs.FinSet as set
use Rattle.qs_send.specs.declared.parts.Chunk.{Chunk}
use Rattle.qs_send.specs.Chunks.{has_unsent}
use Rattle.qs_send.specs.Lane.{SendLane, Sending, after_sent}
use Rattle.qs_send.specs.Writable.{is_writable}
use Rattle.qs_machine.specs.Asking.{kept_on}
use Rattle.qs_machine.specs.Credit.{send_ended}
use Rattle.qs_machine.specs.Heard.{is_told}
use Rattle.qs_machine.specs.News.{IsHeld}
use Rattle.qs_machine.specs.Tables.{Tables, type_of, lookup}
use Rattle.qs_machine.specs.Outgoing.{Outgoing, IsTied, HasSending}
use Rattle.qs_conn.specs.Promised.{promised_on}
use Rattle.qs_conn.specs.declared.send_marks.Moves.{Moves}
use Rattle.qs_conn.specs.declared.send_marks.Moves.TheVariants as moves
use Rattle.qs_conn.specs.declared.send_marks.Task.{Task}
use Rattle.qs_conn.specs.declared.send_marks.Task.TheVariants as tasks
use Rattle.qs_conn.specs.declared.send_marks.Search.{Search}
use Rattle.qs_conn.specs.declared.send_marks.SendMarks.{SendMarks}
use Rattle.qs_conn.specs.Marks.{is_marked, AreMarksFor}

-- whether a byte below n is due (RFC 9000, section 13.3)
unfoldable pub is_due_below : Sending → ℕ → Bool
is_due_below s n = list_any (set.contains s.due.offsets) (range_with_len 0 n)

-- whether the end may go: it is due, with every byte sent (RFC 9000, section 3.1)
abbrev pub may_end : Sending → Bool
may_end s = s.due.fin && (s.lane.sent_end == s.lane.written)

-- whether a half takes bytes now that its limit lets go (RFC 9000, sections 2.2 and 4.1)
abbrev pub is_funded : SendLane → Bool
is_funded lane = is_writable lane && nat_lt lane.written lane.limit

-- whether a half has something of a kind: bytes or the end for a packet; those that take no credit of the connection; room to write, and
-- below its limit; its end; a STOP_SENDING that came (RFC 9000, sections 3.1, 3.5, 4.1 and 13.3)
abbrev pub has : Task → Sending → Bool
has tasks.Bytes s = has_unsent s.lane || (may_end s || is_due_below s s.lane.limit)
has tasks.Again s = may_end s || is_due_below s s.lane.sent_end
has tasks.Writable s = is_writable s.lane
has tasks.Funded s = is_funded s.lane
has tasks.Ended s = send_ended s.lane
has tasks.Stopped s = is_some s.lane.stopped

-- a half that has nothing of a kind
abbrev pub IsQuiet : Task → Sending → Type 0
IsQuiet t s = has t s ≡ false

abbrev pub HasTask : Task → Sending → Type 0
HasTask t s = has t s ≡ true

-- whether a half that begins with a limit and a buffer has something of a kind (RFC 9000, section 3.1)
abbrev pub begins : Task → ℕ → ℕ → Bool
begins tasks.Writable limit buffer = nat_lt 0 buffer
begins tasks.Funded limit buffer = nat_lt 0 buffer && nat_lt 0 limit
begins other limit buffer = false

-- the marks for a task
abbrev pub marks_of : SendMarks → Task → List Bool
marks_of marks tasks.Bytes = marks.bytes
marks_of marks tasks.Again = marks.again
marks_of marks tasks.Writable = marks.writable
marks_of marks tasks.Funded = marks.funded
marks_of marks tasks.Ended = marks.ended
marks_of marks tasks.Stopped = marks.stopped

-- the marks tell which halves have something
abbrev pub AreAllMarked : List Sending → SendMarks → Type 0
AreAllMarked halves marks = (t : Task) → AreMarksFor (has t) halves (marks_of marks t)

-- the marks of an index are those of a half
abbrev pub AreMarksOf : SendMarks → ℕ → Sending → Type 0
AreMarksOf marks i s = (t : Task) → is_marked (marks_of marks t) i ≡ has t s

-- A change that makes nothing due to be sent again, and moves the end only by an acknowledgement: a half before and after it.
pub record IsStill (s now : Sending) : Type 0 where
  pub again : has tasks.Again s ≡ false → has tasks.Again now ≡ false
  pub ended : now.lane.fin_acked ≡ false → has tasks.Ended now ≡ has tasks.Ended s
  pub stopped : has tasks.Stopped now ≡ has tasks.Stopped s

-- and one that moves neither the room nor a sum
pub record IsStillButSent (s now : Sending) : Type 0 where
  pub again : has tasks.Again s ≡ false → has tasks.Again now ≡ false
  pub writable : has tasks.Writable now ≡ has tasks.Writable s
  pub funded : has tasks.Funded now ≡ has tasks.Funded s
  pub ended : has tasks.Ended now ≡ has tasks.Ended s
  pub stopped : has tasks.Stopped now ≡ has tasks.Stopped s
  pub promised : promised_on now.lane ≡ promised_on s.lane
  pub kept : kept_on now.lane ≡ kept_on s.lane

-- and one by which the end may fall due, but no byte, and that moves no sum
pub record IsStillButEnd (s now : Sending) : Type 0 where
  pub again : may_end now ≡ false → has tasks.Again now ≡ has tasks.Again s
  pub ended : has tasks.Ended now ≡ has tasks.Ended s
  pub stopped : has tasks.Stopped now ≡ has tasks.Stopped s
  pub promised : promised_on now.lane ≡ promised_on s.lane
  pub kept : kept_on now.lane ≡ kept_on s.lane

-- what a change that moves no more leaves of a half
abbrev pub Stays : Moves → Sending → Sending → Type 0
Stays moves.Sent s now = IsStillButSent s now
Stays moves.End s now = IsStillButEnd s now
Stays moves.Room s now = IsStill s now
Stays moves.All s now = ⊤

-- the marks of an index are those of a half that a change, which moves no more, left so
abbrev pub AreMarkedBefore : Moves → SendMarks → ℕ → Sending → Type 0
AreMarkedBefore moves.Sent marks i now = (s : Sending) × AreMarksOf marks i s × IsStillButSent s now
AreMarkedBefore moves.End marks i now = (s : Sending) × AreMarksOf marks i s × IsStillButEnd s now
AreMarkedBefore moves.Room marks i now = (s : Sending) × AreMarksOf marks i s × IsStill s now
AreMarkedBefore moves.All marks i now = ⊤

-- what is counted anew of a half where a change may move its sums
abbrev pub counted : Moves → ℕ → ℕ
counted moves.Sent n = 0
counted moves.End n = 0
counted moves.Room n = n
counted moves.All n = n

-- the stream's half, where it has one, has nothing of the kind
abbrev pub IsQuietAt : Task → Outgoing → ℕ → Type 0
IsQuietAt t o n = (l : SendLane) → lookup o.sends n ≡ Some l → (s : Sending) × (s.lane ≡ l) × IsTied o.outstanding n s × IsQuiet t s

-- it has something of it
abbrev pub HasTaskAt : Task → Outgoing → ℕ → Type 0
HasTaskAt t o n = (s : Sending) × HasSending o n s × HasTask t s

-- what a half has that may send: any bytes and the end while the connection has credit, and else what takes none (RFC 9000, section 4.1)
abbrev pub going_task : (sent known : ℕ) → Task
going_task sent known = if nat_lt sent known then tasks.Bytes else tasks.Again

-- the stream has a half
abbrev pub IsOpen : {X : Type 0} → Tables X → ℕ → Type 0
IsOpen t n = is_some (lookup t n) ≡ true

-- of a stream whose half takes in that a chunk was sent nothing more may go
abbrev pub IsDoneAfter : Outgoing → ℕ → Chunk → Type 0
IsDoneAfter o n c = (s : Sending) → HasSending o n s → IsQuiet tasks.Bytes (after_sent s c)

-- a chunk that goes leaves the stream below its limit, or where it stood (RFC 9000, section 4.1)
abbrev pub IsFree : Outgoing → ℕ → Chunk → Type 0
IsFree o n c = (s : Sending) → HasSending o n s → (s.lane.written ≤ s.lane.limit) ⊎ ((after_sent s c).lane.sent_end ≡ s.lane.sent_end)

-- the stream stands below its limit
abbrev pub IsShort : Outgoing → ℕ → Type 0
IsShort o n = (s : Sending) → HasSending o n s → s.lane.sent_end < s.lane.limit

-- the half of a stream has something of the kind that a search asks for, and an owner was told of its stream, or wasn't, as it asks
abbrev pub IsSought : Search → Tables Sending → Tables Bool → ℕ → Type 0
IsSought q t told n = IsHeld (HasTask q.task) t n × (is_told told n ≡ q.is_told)

abbrev pub IsSoughtOf : Search → Tables Sending → Tables Bool → ℕ → ℕ → Type 0
IsSoughtOf q t told kind n = (type_of n ≡ kind) × IsSought q t told n
