-- Of laws.
-- An end with what its owner heard of it: each call is the end's call, and the note of what came of it; and nothing else notes (RFC 9000,
-- sections 2.2 to 2.4, 3 and 4, for the whole file).
use Rattle.std.specs.Prelude.{◌≡◌, ℕ, zero, suc, Bool, true, false, not, ◌&&◌, List, [], ◌∷◌, length, Option, None, Some, is_some, nat_le, nat_lt, Result, Ok, Err, if◌then◌else◌, ◌⊎◌}
use Rattle.std.specs.FinSet as set
use Rattle.qs_wire.specs.declared.stream_id.Dir.{Dir}
use Rattle.qs_wire.specs.declared.stream_id.Role.{Role}
use Rattle.qs_recv.specs.News.{is_readable}
use Rattle.qs_recv.specs.Lane.{RecvLane}
use Rattle.qs_send.specs.declared.piece.Item.{Item}
use Rattle.qs_send.specs.declared.piece.Item.TheVariants as items
use Rattle.qs_calls.specs.declared.settings.Settings.{Settings}
use Rattle.qs_calls.specs.declared.settings.Tuning.{Tuning}
use Rattle.qs_calls.specs.declared.settings.PeerLimits.{PeerLimits}
use Rattle.qs_calls.specs.declared.news.News.{News}
use Rattle.qs_calls.specs.declared.news.News.TheVariants as news
use Rattle.qs_calls.specs.declared.uses.OpenFault.{OpenFault}
use Rattle.qs_calls.specs.declared.uses.OpenFault.TheVariants as opening
use Rattle.qs_calls.specs.declared.closing.Closing.{Closing}
use Rattle.qs_calls.specs.declared.closing.Received.{Received}
use Rattle.qs_calls.specs.declared.closing.Received.TheVariants as received
use Rattle.qs_calls.specs.declared.token.Taken.{Taken}
use Rattle.qs_calls.specs.declared.token.TakeFault.{TakeFault}
use Rattle.qs_machine.specs.Ends.{End, recv_lane, wide_end_made}
use Rattle.qs_machine.specs.Credit.{granted_streams, send_ended}
use Rattle.qs_machine.specs.Owner.{is_read_no_more}
use Rattle.qs_machine.specs.Seen.{Seen, Control, seen, seen_all}
use Rattle.qs_machine.specs.Plains.{frames_in}
use Rattle.qs_machine.specs.News.{IsHeld, IsReadable}
use Rattle.qs_machine.specs.Asking.{room, open_left, stopped_with}
use Rattle.qs_machine.specs.Heard.{place_of, is_met, limit_to_tell}
use Rattle.qs_machine.specs.Hearing.{Hearing, IsNews, IsFirstNews, having_told}
use Rattle.qs_machine.specs.EndStep.{Call, Answer, EndStep, Open, Write, Stop, StopAndDiscard, ReadUpTo, Consume, Receive, TakeFrame, TakeFrames}

-- an end, and what its owner heard of it
pub record Owned : Type 0 where
  pub end : End
  pub heard : Hearing

-- a read would tell something new
abbrev pub reads_on : Option RecvLane → Bool
reads_on None = false
reads_on (Some l) = is_readable l

-- a read or a stop: where nothing new is left to read, the owner hears of the stream again once something is (RFC 9000, section 2.2)
abbrev pub after_reading : ℕ → End → Hearing → Hearing
after_reading n new h =
    if not (is_read_no_more new) && reads_on (recv_lane new n) then h else record h { readable = set.remove h.readable n }

-- a write that was cut short: the owner waits for the stream (RFC 9000, section 2.2)
abbrev pub after_writing : ℕ → (asked : ℕ) → {F : Type 0} → Result ℕ F → Hearing → Hearing
after_writing n asked (Ok count) h = if nat_lt count asked then record h { short = set.insert h.short n } else h
after_writing n asked (Err fault) h = h

-- no stream could be opened by the peer's count: the owner waits for one (RFC 9000, section 4.6)
abbrev pub after_opening : Dir → Result ℕ OpenFault → Hearing → Hearing
after_opening d (Err (opening.Blocked count)) h = record h { wants = set.insert h.wants (place_of d) }
after_opening d answer h = h

-- the peer says of a present limit that it holds it back; of one that rose since nothing is noted (RFC 9000, sections 19.12 to 19.14)
abbrev pub item_heard : End → Item → Hearing → Hearing
item_heard e (items.DataBlocked limit) h = if nat_le e.granted limit then record h { conn_blocked = true } else h
item_heard e (items.StreamDataBlocked n limit) h = if is_met (limit_to_tell (recv_lane e n)) limit then record h { blocked = set.insert h.blocked n } else h
item_heard e (items.StreamsBlocked d count) h =
    if nat_le (granted_streams e d) count then record h { counts_blocked = set.insert h.counts_blocked (place_of d) } else h
item_heard e item h = h

-- of other frames the owner hears by what they leave
abbrev pub frame_heard : End → Hearing → Seen → Hearing
frame_heard e h (Control item) = item_heard e item h
frame_heard e h f = h

-- frames that took effect, judged by the limits after the call
abbrev pub frames_heard : End → List Seen → Hearing → Hearing
frames_heard e [] h = h
frames_heard e (f ∷ fs) h = frames_heard e fs (frame_heard e h f)

-- those of a payload that was taken in whole: one that found no memory comes again
abbrev pub after_payload : List ℕ → Result Received Closing → End → Hearing → Hearing
after_payload text (Ok received.Done) new h = frames_heard new (frames_in text) h
after_payload text answer new h = h

-- those that were handed in alone
abbrev pub after_frames : List Seen → Result Taken TakeFault → End → Hearing → Hearing
after_frames fs (Ok done) new h = frames_heard new fs h
after_frames fs (Err fault) new h = h

-- What an owner heard once a call was made, by the end after it. Calls of which it has to hear nothing beside what they leave note nothing.
abbrev pub heard_after : (call : Call) → Answer call → End → Hearing → Hearing
heard_after (Open d) answer new h = after_opening d answer h
heard_after (Write n bytes) answer new h = after_writing n (length bytes) answer h
heard_after (Stop n code) answer new h = after_reading n new h
heard_after (StopAndDiscard n code) answer new h = after_reading n new h
heard_after (ReadUpTo n size) answer new h = after_reading n new h
heard_after (Consume n most) answer new h = after_reading n new h
heard_after (Receive k payload) answer new h = after_payload payload answer new h
heard_after (TakeFrame f) answer new h = after_frames (seen f ∷ []) answer new h
heard_after (TakeFrames fs) answer new h = after_frames (seen_all fs) answer new h
heard_after call answer new h = h

-- the call of an owned end: the end's step, and the note
pub record OwnedStep (old : Owned) (call : Call) (answer : Answer call) (new : Owned) : Type 0 where
  pub step : EndStep old.end call answer new.end
  pub note : new.heard ≡ heard_after call answer new.end old.heard

-- what was heard once an answer was told
abbrev pub heard_of : Option News → Hearing → Hearing
heard_of None h = h
heard_of (Some told) h = having_told told h

-- the owner asks what happened: the first news, which then was told (None only where there is none)
pub record TellStep (old : Owned) (answer : Option News) (new : Owned) : Type 0 where
  pub still : new.end ≡ old.end
  pub first : IsFirstNews old.end old.heard answer
  pub note : new.heard ≡ heard_of answer old.heard

abbrev pub HasNews : Owned → News → Type 0
HasNews o n = IsNews o.end o.heard n

-- What takes news away but being told: that a stream was read, that a write used up the room, or an opening the count. Any other news stays.
abbrev pub IsOver : Owned → News → Type 0
IsOver o (news.Readable n) = IsReadable o.end n → ⊥
IsOver o (news.Writable n) = room o.end n ≡ 0
IsOver o (news.Available d) = open_left o.end d ≡ 0
IsOver o other = ⊥

-- an end to which so many calls led from a new one, whoever its peer is
abbrev pub IsLedTo : ℕ → End → Type 0
IsLedTo zero e = (role : Role) × (s : Settings) × (t : Tuning) × (p : PeerLimits) × (wide_end_made role s t p ≡ Ok e)
IsLedTo (suc k) e = (old : End) × (call : Call) × (answer : Answer call) × IsLedTo k old × EndStep old call answer e

-- NO NEWS IS LOST
pub record NoNewsIsLost : Type 0 where
  -- whatever is called, what an owner would hear of it hears of still, unless it is over, or the end closed
  pub calls : (k : ℕ) (old new : Owned) (call : Call) (answer : Answer call) (n : News) → IsLedTo k old.end → OwnedStep old call answer new → HasNews old n
      → HasNews new n ⊎ IsOver new n ⊎ (is_some new.end.closed ≡ true)
  -- where a sending half came to its end no call stops it any more, so that no stop is lost that is told with the end
  pub stops : (k : ℕ) (old new : End) (call : Call) (answer : Answer call) (n : ℕ) → IsLedTo k old → EndStep old call answer new → IsHeld (λ l. send_ended l ≡ true) old.sends n
      → stopped_with new n ≡ stopped_with old n
  -- what is told is news no more, and no other news goes by it
  pub told : (old new : Owned) (n : News) → TellStep old (Some n) new → HasNews new n → ⊥
  pub others : (old new : Owned) (n other : News) → TellStep old (Some n) new → HasNews old other → (other ≡ n → ⊥) → HasNews new other
