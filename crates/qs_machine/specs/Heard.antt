-- Of public contracts.
-- What an end tells its owner of by itself, and what the owner heard of so far (RFC 9000, sections 2.2 to 2.4, 3 and 4, for the whole file).
use Rattle.std.specs.Prelude.{◌≡◌, ℕ, ◌+◌, ◌<◌, Bool, true, false, ◌&&◌, ◌⊎◌, Option, None, Some, Result, Ok, Err, is_some, nat_le, nat_lt, unwrap_or, if◌then◌else◌, MatchBool}
use Rattle.qs_ranges.specs.declared.NoMemory.{NoMemory}
use Rattle.qs_wire.specs.Streams.{dir_of}
use Rattle.qs_wire.specs.declared.stream_id.Dir.{Dir}
use Rattle.qs_wire.specs.declared.stream_id.Dir.TheVariants.{Bidi, Uni}
use Rattle.qs_recv.specs.Lane.{RecvLane}
use Rattle.qs_send.specs.Lane.{SendLane}
use Rattle.qs_send.specs.declared.piece.Item.{Item}
use Rattle.qs_send.specs.declared.piece.Item.TheVariants as items
use Rattle.qs_calls.specs.declared.news.News.{News}
use Rattle.qs_calls.specs.declared.news.News.TheVariants.{Opened, Readable, Writable, Stopped, Finished, ResetAcked, Ended, Available, DataBlocked, StreamDataBlocked, StreamsBlocked}
use Rattle.qs_machine.specs.Tables.{Tables, lookup, update, updated, open_to, no_streams, type_of, index_of}
use Rattle.qs_machine.specs.Ends.{End, is_own, send_lane, recv_lane}
use Rattle.qs_machine.specs.Credit.{send_ended, granted_streams}
use Rattle.qs_machine.specs.Seen.{Seen, Ack, Stream, Control, Close, Plain}
use Rattle.qs_machine.specs.Owner.{opened_count}
use Rattle.qs_machine.specs.News.{IsHeld, IsReadable, IsEnded}
use Rattle.qs_machine.specs.Asking.{room, stopped_with, open_left}

-- whether a stream has a mark: one without a place has none
abbrev pub is_told : Tables Bool → ℕ → Bool
is_told t n = unwrap_or (lookup t n) false

-- One stream more has a mark. It has a place then, as each below it of its type has; no other stream's place comes or goes, so that a mark
-- takes no memory where there is one.
abbrev pub IsToldBeside : ℕ → Tables Bool → Tables Bool → Type 0
IsToldBeside n old new = new ≡ update (open_to old n (λ m. false)) n true

-- one stream has none any more, and keeps its place, where it has one
abbrev pub IsForgotten : ℕ → Tables Bool → Tables Bool → Type 0
IsForgotten n old new = new ≡ updated old n (λ mark. false) (lookup old n)

-- what the peer said to hold it back, and its owner wasn't told: the connection's limit, those of streams, each direction's count (RFC 9000,
-- sections 4.1 and 4.6)
pub record Blocked : Type 0 where
  pub conn : Bool
  pub streams : Tables Bool
  pub bidi : Bool
  pub uni : Bool

abbrev pub nothing_blocked : Blocked
nothing_blocked = record { conn = false; streams = no_streams; bidi = false; uni = false }

-- What an owner heard of: how many of the peer's streams opened, of each direction; which streams are readable, of those that weren't read
-- empty since; of which sending halves no stop is left to tell, and which came to their end; which streams are over. And what it waits for: to write
-- to streams of which a write was cut short, and to open a stream of a direction. And what it is to hear of the peer's.
pub record Hearing : Type 0 where
  pub opened_bidi : ℕ
  pub opened_uni : ℕ
  pub readable : Tables Bool
  pub short : Tables Bool
  pub stopped : Tables Bool
  pub sent : Tables Bool
  pub ended : Tables Bool
  pub wants_bidi : Bool
  pub wants_uni : Bool
  pub blocked : Blocked

-- nothing was heard, and nothing is waited for
abbrev pub heard_nothing : Hearing
heard_nothing =
    record {
      opened_bidi = 0;
      opened_uni = 0;
      readable = no_streams;
      short = no_streams;
      stopped = no_streams;
      sent = no_streams;
      ended = no_streams;
      wants_bidi = false;
      wants_uni = false;
      blocked = nothing_blocked;
    }

-- how many of the peer's streams of a direction were heard of
abbrev pub heard_opened : Hearing → Dir → ℕ
heard_opened h Bidi = h.opened_bidi
heard_opened h Uni = h.opened_uni

abbrev pub with_opened : Hearing → Dir → Hearing
with_opened h Bidi = record h { opened_bidi = h.opened_bidi + 1 }
with_opened h Uni = record h { opened_uni = h.opened_uni + 1 }

-- whether a stream of a direction is waited for
abbrev pub wants : Hearing → Dir → Bool
wants h Bidi = h.wants_bidi
wants h Uni = h.wants_uni

abbrev pub with_wants : Hearing → Dir → Bool → Hearing
with_wants h Bidi b = record h { wants_bidi = b }
with_wants h Uni b = record h { wants_uni = b }

-- whether a direction's count was said to hold the peer back
abbrev pub is_held_back : Blocked → Dir → Bool
is_held_back b Bidi = b.bidi
is_held_back b Uni = b.uni

abbrev pub with_held_back : Blocked → Dir → Bool → Blocked
with_held_back b Bidi is = record b { bidi = is }
with_held_back b Uni is = record b { uni = is }

-- the stream is open, the peer's, and the next one that wasn't heard of: all lower ones of its type were (RFC 9000, section 2.1)
pub record IsNextOpened (e : End) (h : Hearing) (n : ℕ) : Type 0 where
  pub theirs : is_own e n ≡ false
  pub opened : index_of n < opened_count e (type_of n)
  pub next : index_of n ≡ heard_opened h (dir_of n)

-- the sending half came to its end by an acknowledged reset, or by all that was written and the end being acknowledged (RFC 9000,
-- section 3.1)
abbrev pub WasResetAcked : SendLane → Type 0
WasResetAcked l = l.reset_acked ≡ true

abbrev pub HasFinished : SendLane → Type 0
HasFinished l = (l.reset_acked ≡ false) × (send_ended l ≡ true)

-- a stream of the direction may be opened, on a connection that isn't closed (RFC 9000, sections 4.6 and 10.2)
abbrev pub MayOpen : End → Dir → Type 0
MayOpen e d = (e.closed ≡ None) × (0 < open_left e d)

-- What an owner that heard so much would hear of. What the peer said to hold it back is told once, whatever became of that limit since, but of
-- a closed end (RFC 9000, section 10.2).
abbrev pub IsNews : End → Hearing → News → Type 0
IsNews e h (Opened n) = IsNextOpened e h n
IsNews e h (Readable n) = IsReadable e n × (is_told h.readable n ≡ false)
IsNews e h (Writable n) = (0 < room e n) × (is_told h.short n ≡ true)
IsNews e h (Stopped n code) = (stopped_with e n ≡ Some code) × (is_told h.stopped n ≡ false)
IsNews e h (Finished n) = IsHeld HasFinished e.sends n × (is_told h.sent n ≡ false)
IsNews e h (ResetAcked n) = IsHeld WasResetAcked e.sends n × (is_told h.sent n ≡ false)
IsNews e h (Ended n) = IsEnded e n × (is_told h.ended n ≡ false)
IsNews e h (Available d) = MayOpen e d × (wants h d ≡ true)
IsNews e h DataBlocked = (e.closed ≡ None) × (h.blocked.conn ≡ true)
IsNews e h (StreamDataBlocked n) = (e.closed ≡ None) × (is_told h.blocked.streams n ≡ true)
IsNews e h (StreamsBlocked d) = (e.closed ≡ None) × (is_held_back h.blocked d ≡ true)

-- The order of news: by their kind, as IsNews has them, and then by stream or direction (ours).
abbrev pub kind_of : News → ℕ
kind_of (Opened n) = 0
kind_of (Readable n) = 1
kind_of (Writable n) = 2
kind_of (Stopped n code) = 3
kind_of (Finished n) = 4
kind_of (ResetAcked n) = 4
kind_of (Ended n) = 5
kind_of (Available d) = 6
kind_of DataBlocked = 7
kind_of (StreamDataBlocked n) = 8
kind_of (StreamsBlocked d) = 9

abbrev pub place_of : Dir → ℕ
place_of Bidi = 0
place_of Uni = 1

abbrev pub subject_of : News → ℕ
subject_of (Opened n) = n
subject_of (Readable n) = n
subject_of (Writable n) = n
subject_of (Stopped n code) = n
subject_of (Finished n) = n
subject_of (ResetAcked n) = n
subject_of (Ended n) = n
subject_of (Available d) = place_of d
subject_of DataBlocked = 0
subject_of (StreamDataBlocked n) = n
subject_of (StreamsBlocked d) = place_of d

abbrev pub ComesBefore : News → News → Type 0
ComesBefore a b = (kind_of a < kind_of b) ⊎ ((kind_of a ≡ kind_of b) × (subject_of a < subject_of b))

-- the answer is the first news, and None only where there is none
pub record IsFirstNews (e : End) (h : Hearing) (answer : Option News) : Type 0 where
  pub found : (news : News) → answer ≡ Some news → IsNews e h news
  pub first : (other : News) → IsNews e h other → (news : News) × (answer ≡ Some news) × (ComesBefore other news → ⊥)

-- What was heard once a piece of news was told: it isn't told again. A sending half that came to its end takes no STOP_SENDING any more
-- (RFC 9000, sections 3.1 and 3.5), so to tell of its end notes, too, that no stop of it is left to tell.
abbrev pub IsHeardBy : News → Hearing → Hearing → Type 0
IsHeardBy (Opened n) h new = new ≡ with_opened h (dir_of n)
IsHeardBy (Readable n) h new = IsToldBeside n h.readable new.readable × (new ≡ record h { readable = new.readable })
IsHeardBy (Writable n) h new = IsForgotten n h.short new.short × (new ≡ record h { short = new.short })
IsHeardBy (Stopped n code) h new = IsToldBeside n h.stopped new.stopped × (new ≡ record h { stopped = new.stopped })
IsHeardBy (Finished n) h new = IsToldBeside n h.sent new.sent × IsToldBeside n h.stopped new.stopped × (new ≡ record h { sent = new.sent; stopped = new.stopped })
IsHeardBy (ResetAcked n) h new = IsToldBeside n h.sent new.sent × IsToldBeside n h.stopped new.stopped × (new ≡ record h { sent = new.sent; stopped = new.stopped })
IsHeardBy (Ended n) h new = IsToldBeside n h.ended new.ended × (new ≡ record h { ended = new.ended })
IsHeardBy (Available d) h new = new ≡ with_wants h d false
IsHeardBy DataBlocked h new = new ≡ record h { blocked = record h.blocked { conn = false } }
IsHeardBy (StreamDataBlocked n) h new = IsForgotten n h.blocked.streams new.blocked.streams × (new ≡ record h { blocked = record h.blocked { streams = new.blocked.streams } })
IsHeardBy (StreamsBlocked d) h new = new ≡ record h { blocked = with_held_back h.blocked d false }

-- To note it as heard takes memory: its stream has no mark yet, set or not, among those that are made. That a stream opened or takes a byte, that one may be opened, and
-- what holds the peer back take none (ours).
abbrev pub TakesMemory : News → Hearing → Type 0
TakesMemory (Opened n) h = ⊥
TakesMemory (Readable n) h = lookup h.readable n ≡ None
TakesMemory (Writable n) h = ⊥
TakesMemory (Stopped n code) h = lookup h.stopped n ≡ None
TakesMemory (Finished n) h = (lookup h.sent n ≡ None) ⊎ (lookup h.stopped n ≡ None)
TakesMemory (ResetAcked n) h = (lookup h.sent n ≡ None) ⊎ (lookup h.stopped n ≡ None)
TakesMemory (Ended n) h = lookup h.ended n ≡ None
TakesMemory (Available d) h = ⊥
TakesMemory DataBlocked h = ⊥
TakesMemory (StreamDataBlocked n) h = ⊥
TakesMemory (StreamsBlocked d) h = ⊥

-- the first piece of news takes memory
abbrev pub FirstTakesMemory : End → Hearing → Type 0
FirstTakesMemory e h = (news : News) × IsFirstNews e h (Some news) × TakesMemory news h

-- The owner asks for the first piece of news: it is noted as heard, or there was no memory to note it, which it takes.
abbrev pub IsNextNews : End → Hearing → Result (Option News) NoMemory → Hearing → Type 0
IsNextNews e old (Err refused) new = (new ≡ old) × FirstTakesMemory e old
IsNextNews e old (Ok None) new = IsFirstNews e old None × (new ≡ old)
IsNextNews e old (Ok (Some news)) new = IsFirstNews e old (Some news) × IsHeardBy news old new

-- a write of so many bytes to the stream is cut short: it takes fewer (RFC 9000, sections 2.2 and 4.1)
abbrev pub is_cut_short : End → ℕ → ℕ → Bool
is_cut_short e n len = is_some (send_lane e n) && nat_lt (room e n) len

-- It is noted that a stream is waited for, or there was no memory to note it, which it takes where the stream has no mark yet.
abbrev pub IsNotedShort : ℕ → Hearing → Result (Unit {0}) NoMemory → Hearing → Type 0
IsNotedShort n old (Err refused) new = (new ≡ old) × (lookup old.short n ≡ None)
IsNotedShort n old (Ok done) new = IsToldBeside n old.short new.short × (new ≡ record old { short = new.short })

-- The owner is about to write so many bytes: where that will be cut short, it waits for the stream.
pub record WillWrite (e : End) (n len : ℕ) (old : Hearing) (answer : Result (Unit {0}) NoMemory) (new : Hearing) : Type 0 where
  pub short : is_cut_short e n len ≡ true → IsNotedShort n old answer new
  pub whole : is_cut_short e n len ≡ false → (answer ≡ Ok tt) × (new ≡ old)

-- The owner read a stream: where nothing new is left to read, it hears of it again once something is (RFC 9000, section 2.2).
pub record IsReadOn (e : End) (n : ℕ) (old new : Hearing) : Type 0 where
  pub more : IsReadable e n → new ≡ old
  pub dry : (IsReadable e n → ⊥) → IsForgotten n old.readable new.readable × (new ≡ record old { readable = new.readable })

-- the limit of a receiving half of which no final size is known (RFC 9000, section 4.1)
abbrev pub limit_to_tell : Option RecvLane → Option ℕ
limit_to_tell None = None
limit_to_tell (Some l) = if is_some l.final_size then None else Some l.limit

-- the limit that the peer names is the present one, or a greater one
abbrev pub is_met : Option ℕ → ℕ → Bool
is_met None named = false
is_met (Some limit) named = nat_le limit named

abbrev pub IsAsBefore : Hearing → Result (Unit {0}) NoMemory → Hearing → Type 0
IsAsBefore old answer new = (answer ≡ Ok tt) × (new ≡ old)

-- It is noted that a stream's limit holds the peer back, or there was no memory, which it takes where the stream has no mark yet.
abbrev pub IsNotedBlocked : ℕ → Hearing → Result (Unit {0}) NoMemory → Hearing → Type 0
IsNotedBlocked n old (Err refused) new = (new ≡ old) × (lookup old.blocked.streams n ≡ None)
IsNotedBlocked n old (Ok done) new = IsToldBeside n old.blocked.streams new.blocked.streams × (new ≡ record old { blocked = record old.blocked { streams = new.blocked.streams } })

-- The peer says of a present limit that it holds it back: that is noted. One that rose since isn't (RFC 9000, sections 19.12 to 19.14).
abbrev pub IsItemNoted : End → Item → Hearing → Result (Unit {0}) NoMemory → Hearing → Type 0
IsItemNoted e (items.DataBlocked limit) old answer new = IsAsBefore (if nat_le e.granted limit then record old { blocked = record old.blocked { conn = true } } else old) answer new
IsItemNoted e (items.StreamDataBlocked n limit) old answer new = MatchBool (is_met (limit_to_tell (recv_lane e n)) limit) (IsNotedBlocked n old answer new) (IsAsBefore old answer new)
IsItemNoted e (items.StreamsBlocked d count) old answer new =
    IsAsBefore (if nat_le (granted_streams e d) count then record old { blocked = with_held_back old.blocked d true } else old) answer new
IsItemNoted e (items.MaxData m) old answer new = IsAsBefore old answer new
IsItemNoted e (items.MaxStreamData n m) old answer new = IsAsBefore old answer new
IsItemNoted e (items.MaxStreams d m) old answer new = IsAsBefore old answer new
IsItemNoted e (items.ResetStream n code size) old answer new = IsAsBefore old answer new
IsItemNoted e (items.StopSending n code) old answer new = IsAsBefore old answer new

-- The owner hands in a frame of the peer's. One that tells of no such limit changes nothing.
abbrev pub IsNoted : End → Seen → Hearing → Result (Unit {0}) NoMemory → Hearing → Type 0
IsNoted e (Control item) old answer new = IsItemNoted e item old answer new
IsNoted e (Ack largest ranges) old answer new = IsAsBefore old answer new
IsNoted e (Stream n offset bytes fin) old answer new = IsAsBefore old answer new
IsNoted e (Close code) old answer new = IsAsBefore old answer new
IsNoted e (Plain asks) old answer new = IsAsBefore old answer new
