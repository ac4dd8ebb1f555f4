-- Of laws.
-- What a lap is, and what none is for want of each of its parts; and what isn't sent again in one. The whole file is ours.
use Rattle.std.specs.Prelude.{◌≡◌, ℕ, ◌<◌, Bool, true, false, List, [], ◌∷◌, Some, Ok}
use Rattle.std.specs.FinMap as fmap
use Rattle.qs_wire.specs.declared.stream_id.Dir.{Dir}
use Rattle.qs_recv.specs.Lane.{RecvLane, take_stream}
use Rattle.qs_recv.specs.declared.half.Read.TheVariants as reads
use Rattle.qs_send.specs.declared.piece.Item.{Item}
use Rattle.qs_send.specs.declared.piece.Item.TheVariants.{DataBlocked, StreamDataBlocked}
use Rattle.qs_calls.specs.declared.closing.NotedClose.{NotedClose}
use Rattle.qs_calls.specs.declared.settings.PeerLimits.{PeerLimits}
use Rattle.qs_calls.specs.declared.token.Token.{Token}
use Rattle.qs_calls.specs.declared.event.Side.{Side}
use Rattle.qs_calls.specs.declared.event.Side.TheVariants.{A}
use Rattle.qs_machine.specs.Ends.{End, no_items}
use Rattle.qs_machine.specs.Seen.{Ack, asks_ack}
use Rattle.qs_machine.specs.FrameStep.{item_acked}
use Rattle.qs_machine.specs.Due.{IsDueItem}
use Rattle.qs_machine.specs.Setting.{Setting}
use Rattle.qs_machine.specs.News.{IsReadable}
use Rattle.qs_machine.specs.EndStep.{Call, Answer, Open, Write, Finish, Reset, Stop, StopAndDiscard, ReadUpTo, TokenLost, Lose, RaiseLimits, Set, NoteClosed}
use Rattle.qs_machine.specs.Examples.{client_of, standard}
use Rattle.qs_machine.specs.ExclusionsDue.{held_back, two_of_three}
use Rattle.qs_machine.specs.SmallEnds.{client_with, fresh, raised}
use Rattle.qs_runs.specs.Logs.{Happening}
use Rattle.qs_runs.specs.Worlds.{end_of}
use Rattle.qs_rest.specs.Rest.{HasMore}
use Rattle.qs_rest.specs.Exclusions.{reads_by, beside_server}
use Rattle.qs_progress.specs.Laps.{Moment, Lap}
use Rattle.qs_progress.specs.Comes.{BothRest}

-- the reader of stream 0, of which the end came and no byte; and whether it was told so
abbrev pub ended_half : Bool → RecvLane
ended_half told = record (take_stream fresh 0 [] true) { reader_done = told }

abbrev pub reads_end : Happening
reads_end = record { end = A; call = ReadUpTo 0 1; answer = (Ok reads.End, []) }

abbrev pub before : Moment
before = record { log = []; ends = beside_server (reads_by (ended_half false)) }

abbrev pub after : Moment
after = record { log = reads_end ∷ []; ends = beside_server (reads_by (ended_half true)) }

-- one thing happened in between
abbrev pub Follows : Happening → Moment → Moment → Type 0
Follows x old new = new.log ≡ x ∷ old.log

-- where this is the one, it is no lap
abbrev pub MakesNoLap : Call → Type 0
MakesNoLap call = (s : Side) (answer : Answer call) (old new : Moment) → Follows (record { end = s; call = call; answer = answer }) old new → Lap old new → ⊥

-- A lap
pub record IsLap : Type 0 where
  -- a reader is told the end: nothing is outstanding, no end has more to send, and no reader more to read
  pub reads : Lap before after
  -- and it doesn't begin at rest
  pub begins : BothRest before.ends → ⊥

-- No lap
pub record IsNoLap : Type 0 where
  -- where a packet is lost, by its number or its token
  pub number : (k : ℕ) → MakesNoLap (Lose k)
  pub token : (t : Token) → MakesNoLap (TokenLost t)
  -- where anything is asked for
  pub opens : (d : Dir) → MakesNoLap (Open d)
  pub writes : (n : ℕ) (bytes : List ℕ) → MakesNoLap (Write n bytes)
  pub finishes : (n : ℕ) → MakesNoLap (Finish n)
  pub resets : (n code : ℕ) → MakesNoLap (Reset n code)
  pub stops : (n code : ℕ) → MakesNoLap (Stop n code)
  pub discards : (n code : ℕ) → MakesNoLap (StopAndDiscard n code)
  pub raises : (p : PeerLimits) → MakesNoLap (RaiseLimits p)
  -- or set
  pub sets : (x : Setting) → MakesNoLap (Set x)
  -- or closed
  pub closes : (c : NotedClose) → MakesNoLap (NoteClosed c)
  -- where a packet that was outstanding as it began is so at its end
  pub outstanding : (old new : Moment) (s : Side) (k : ℕ) → k < (end_of old.ends s).next → fmap.contains_key (end_of new.ends s).outstanding k ≡ true → Lap old new → ⊥
  -- where an end has more to send, and one thing happens
  pub more : (x : Happening) (old new : Moment) (s : Side) → Follows x old new → HasMore (end_of new.ends s) → Lap old new → ⊥
  -- where a reader has something to read
  pub unread : (x : Happening) (old new : Moment) (s : Side) (n : ℕ) → Follows x old new → IsReadable (end_of new.ends s) n → Lap old new → ⊥
  -- where nothing happens
  pub nothing : (m : Moment) → Lap m m → ⊥

-- What goes out
pub record GoesOut : Type 0 where
  -- a limit that an older value of is acknowledged
  pub older : HasMore (record raised { acked = record no_items { max_data = Some 4500 } })
  -- a client tells that the connection's credit holds it back, or a stream's
  pub blocked : IsDueItem (held_back two_of_three) (DataBlocked 2)
  pub stream_blocked : IsDueItem (client_with (record two_of_three { limit = 2 })) (StreamDataBlocked 0 2)
  -- but a limit isn't told once it is acknowledged itself; and so of each item
  pub again : HasMore (record raised { acked = record no_items { max_data = Some 5000 } }) → ⊥
  pub acked : (i : Item) (e : End) → e.acked ≡ no_items → IsDueItem (item_acked i e) i → ⊥
  -- nor an ACK, that would ask for one
  pub ack : HasMore (record (client_of standard) { ack_due = true }) → ⊥
  pub asks : (largest : ℕ) (ranges : List (ℕ × ℕ)) → asks_ack (Ack largest ranges) ≡ true → ⊥

pub record LapExclusions : Type 0 where
  pub laps : IsLap
  pub others : IsNoLap
  pub out : GoesOut
