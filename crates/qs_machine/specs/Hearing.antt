-- Of laws.
-- What an end tells its owner of by itself, and what the owner heard of so far (RFC 9000, sections 2.2 to 2.4, 3 and 4, for the whole file).
-- `Heard` says the same of the marks that are kept today.
use Rattle.std.specs.Prelude.{◌≡◌, ℕ, ◌+◌, ◌<◌, Bool, true, false, Option, None, Some}
use Rattle.std.specs.FinSet as set
use Rattle.qs_ranges.specs.Numbers.{NumberSet}
use Rattle.qs_wire.specs.Streams.{dir_of}
use Rattle.qs_wire.specs.declared.stream_id.Dir.{Dir}
use Rattle.qs_wire.specs.declared.stream_id.Dir.TheVariants.{Bidi, Uni}
use Rattle.qs_calls.specs.declared.news.News.{News}
use Rattle.qs_calls.specs.declared.news.News.TheVariants.{Opened, Readable, Writable, Stopped, Finished, ResetAcked, Ended, Available, DataBlocked, StreamDataBlocked, StreamsBlocked}
use Rattle.qs_machine.specs.Tables.{type_of, index_of}
use Rattle.qs_machine.specs.Ends.{End, is_own}
use Rattle.qs_machine.specs.Owner.{opened_count}
use Rattle.qs_machine.specs.News.{IsHeld, IsReadable, IsEnded}
use Rattle.qs_machine.specs.Asking.{room, stopped_with}
use Rattle.qs_machine.specs.Heard.{WasResetAcked, HasFinished, MayOpen, place_of, ComesBefore}

-- what an owner heard of, what it waits for, and what it is to hear of that holds the peer back
pub record Hearing : Type 0 where
  -- how many of the peer's streams opened, of each direction
  pub opened_bidi : ℕ
  pub opened_uni : ℕ
  -- the streams that are readable, and weren't read empty since
  pub readable : NumberSet
  -- those of which a write was cut short, so that their room is waited for
  pub short : NumberSet
  -- those of which no stop is left to tell, whose sending half came to its end, and that are over
  pub stopped : NumberSet
  pub sent : NumberSet
  pub ended : NumberSet
  -- the directions of which a stream is waited for, by place
  pub wants : NumberSet
  -- the connection's limit, those of streams and the counts of directions that hold the peer back
  pub conn_blocked : Bool
  pub blocked : NumberSet
  pub counts_blocked : NumberSet

-- nothing was heard, and nothing is waited for
abbrev pub heard_nothing : Hearing
heard_nothing =
    record { opened_bidi = 0; opened_uni = 0; readable = set.empty; short = set.empty; stopped = set.empty; sent = set.empty; ended = set.empty; wants = set.empty; conn_blocked = false; blocked = set.empty; counts_blocked = set.empty }

-- how many of the peer's streams of a direction were heard of
abbrev pub heard_opened : Hearing → Dir → ℕ
heard_opened h Bidi = h.opened_bidi
heard_opened h Uni = h.opened_uni

-- one more
abbrev pub with_opened : Hearing → Dir → Hearing
with_opened h Bidi = record h { opened_bidi = h.opened_bidi + 1 }
with_opened h Uni = record h { opened_uni = h.opened_uni + 1 }

-- the stream is open, the peer's, and the next one that wasn't heard of: all lower ones of its type were (RFC 9000, section 2.1)
pub record IsNextOpened (e : End) (h : Hearing) (n : ℕ) : Type 0 where
  pub theirs : is_own e n ≡ false
  pub opened : index_of n < opened_count e (type_of n)
  pub next : index_of n ≡ heard_opened h (dir_of n)

-- What an owner that heard so much would hear of. What the peer said to hold it back is told once, whatever became of that limit since, but of
-- a closed end (RFC 9000, section 10.2).
abbrev pub IsNews : End → Hearing → News → Type 0
IsNews e h (Opened n) = IsNextOpened e h n
IsNews e h (Readable n) = IsReadable e n × (set.contains h.readable n ≡ false)
IsNews e h (Writable n) = (0 < room e n) × (set.contains h.short n ≡ true)
IsNews e h (Stopped n code) = (stopped_with e n ≡ Some code) × (set.contains h.stopped n ≡ false)
IsNews e h (Finished n) = IsHeld HasFinished e.sends n × (set.contains h.sent n ≡ false)
IsNews e h (ResetAcked n) = IsHeld WasResetAcked e.sends n × (set.contains h.sent n ≡ false)
IsNews e h (Ended n) = IsEnded e n × (set.contains h.ended n ≡ false)
IsNews e h (Available d) = MayOpen e d × (set.contains h.wants (place_of d) ≡ true)
IsNews e h DataBlocked = (e.closed ≡ None) × (h.conn_blocked ≡ true)
IsNews e h (StreamDataBlocked n) = (e.closed ≡ None) × (set.contains h.blocked n ≡ true)
IsNews e h (StreamsBlocked d) = (e.closed ≡ None) × (set.contains h.counts_blocked (place_of d) ≡ true)

-- the answer is the first news, and None only where there is none
pub record IsFirstNews (e : End) (h : Hearing) (answer : Option News) : Type 0 where
  pub found : (news : News) → answer ≡ Some news → IsNews e h news
  pub first : (other : News) → IsNews e h other → (news : News) × (answer ≡ Some news) × (ComesBefore other news → ⊥)

-- What was heard once a piece of news was told: it isn't told again. A sending half that came to its end takes no STOP_SENDING any more
-- (RFC 9000, sections 3.1 and 3.5), so to tell of its end notes, too, that no stop of it is left to tell.
abbrev pub having_told : News → Hearing → Hearing
having_told (Opened n) h = with_opened h (dir_of n)
having_told (Readable n) h = record h { readable = set.insert h.readable n }
having_told (Writable n) h = record h { short = set.remove h.short n }
having_told (Stopped n code) h = record h { stopped = set.insert h.stopped n }
having_told (Finished n) h = record h { sent = set.insert h.sent n; stopped = set.insert h.stopped n }
having_told (ResetAcked n) h = record h { sent = set.insert h.sent n; stopped = set.insert h.stopped n }
having_told (Ended n) h = record h { ended = set.insert h.ended n }
having_told (Available d) h = record h { wants = set.remove h.wants (place_of d) }
having_told DataBlocked h = record h { conn_blocked = false }
having_told (StreamDataBlocked n) h = record h { blocked = set.remove h.blocked n }
having_told (StreamsBlocked d) h = record h { counts_blocked = set.remove h.counts_blocked (place_of d) }
