-- Of laws.
-- What an owner isn't told, and what a call notes and doesn't (RFC 9000, sections 2.2 to 2.4, 3 and 4).
use Rattle.std.specs.Prelude.{◌≡◌, ℕ, true, [], None, Some, Ok, Err, List}
use Rattle.std.specs.FinSet as set
use Rattle.qs_ranges.specs.Numbers.{NumberSet}
use Rattle.qs_wire.specs.Layout.{data_blocked, stream_data_blocked, streams_blocked}
use Rattle.qs_wire.specs.declared.stream_id.Dir.TheVariants.{Bidi}
use Rattle.qs_recv.specs.declared.half.Read.TheVariants as reads
use Rattle.qs_send.specs.Lane.{SendLane}
use Rattle.qs_calls.specs.declared.closing.Received.TheVariants as received
use Rattle.qs_calls.specs.declared.news.News.TheVariants.{Opened, Readable, Writable, Stopped, Finished, ResetAcked, Available, DataBlocked, StreamDataBlocked, StreamsBlocked}
use Rattle.qs_calls.specs.declared.token.Taken.TheVariants as taken
use Rattle.qs_calls.specs.declared.token.TakeFault.TheVariants as faults
use Rattle.qs_calls.specs.declared.uses.OpenFault.TheVariants as opening
use Rattle.qs_calls.specs.declared.uses.UseFault.TheVariants as uses
use Rattle.qs_machine.specs.Ends.{End}
use Rattle.qs_machine.specs.Hearing.{Hearing, heard_nothing, IsNews}
use Rattle.qs_machine.specs.EndStep.{Open, Write, Stop, ReadUpTo, Receive, TakeFrame}
use Rattle.qs_machine.specs.Owning.{Owned, heard_after, OwnedStep, TellStep, IsOver}
use Rattle.qs_machine.specs.SmallEnds.{client_with, server_with, raised, begun, finished, reset_half, fresh, all_came, abc}
use Rattle.qs_machine.specs.ExclusionsHeard.{reset_came}
use Rattle.qs_machine.specs.ExclusionsOwner.{over}

-- stream 0 alone
abbrev pub first : NumberSet
first = set.insert set.empty 0

-- an owner that heard of the peer's first stream, and of nothing else; one that heard that it is readable, too
abbrev pub heard_one : Hearing
heard_one = record heard_nothing { opened_bidi = 1 }

abbrev pub told_first : Hearing
told_first = record heard_one { readable = first }

abbrev pub owned : End → Hearing → Owned
owned e h = record { end = e; heard = h }

-- the peer stopped a half, and its reset is acknowledged
abbrev pub stopped_half : SendLane
stopped_half = record reset_half { stopped = Some 7; reset_acked = true }

-- that is no news
pub record NoNewsOf : Type 0 where
  -- a stream that was heard of, one of its own, or one that isn't open, opens
  pub heard_of : IsNews (server_with fresh) heard_one (Opened 0) → ⊥
  pub own : IsNews (client_with begun) heard_nothing (Opened 0) → ⊥
  pub unopened : IsNews (server_with fresh) heard_one (Opened 4) → ⊥
  -- one is readable that was heard of, or to which nothing came
  pub read_later : IsNews (server_with all_came) told_first (Readable 0) → ⊥
  pub nothing_came : IsNews (server_with fresh) heard_one (Readable 0) → ⊥
  -- one takes a byte that nobody waits for, or has no room
  pub unasked : IsNews (client_with begun) heard_nothing (Writable 0) → ⊥
  pub full : IsNews (client_with (record begun { buffer = 0 })) (record heard_nothing { short = first }) (Writable 0) → ⊥
  -- one was stopped that wasn't, or with another code
  pub not_stopped : IsNews (client_with begun) heard_nothing (Stopped 0 7) → ⊥
  pub other_code : IsNews (client_with (record reset_half { stopped = Some 7 })) heard_nothing (Stopped 0 8) → ⊥
  -- all is acknowledged of one whose end isn't, or that was reset
  pub unacked : IsNews (client_with finished) heard_nothing (Finished 0) → ⊥
  pub was_reset : IsNews (client_with (record reset_half { reset_acked = true })) heard_nothing (Finished 0) → ⊥
  -- the reset of one that wasn't reset is acknowledged
  pub not_reset : IsNews (client_with finished) heard_nothing (ResetAcked 0) → ⊥
  -- a stream may be opened for which nobody waits, or at a closed end
  pub not_wanted : IsNews (client_with begun) heard_nothing (Available Bidi) → ⊥
  pub closed : IsNews (over (client_with begun)) (record heard_nothing { wants = first }) (Available Bidi) → ⊥
  -- a limit holds the peer back, of which it said nothing, or at a closed end
  pub unsaid : IsNews (server_with fresh) heard_nothing DataBlocked → ⊥
  pub said_before : IsNews (over (server_with fresh)) (record heard_nothing { conn_blocked = true }) DataBlocked → ⊥
  pub stream_unsaid : IsNews (server_with fresh) heard_nothing (StreamDataBlocked 0) → ⊥
  pub count_unsaid : IsNews (server_with fresh) heard_nothing (StreamsBlocked Bidi) → ⊥

-- so an owner isn't told
pub record NotToldSo : Type 0 where
  -- that there is nothing, where there is some
  pub kept_back : (new : Owned) → TellStep (owned (server_with all_came) heard_nothing) None new → ⊥
  -- that a stream is readable before it opened
  pub out_of_order : (new : Owned) → TellStep (owned (server_with all_came) heard_nothing) (Some (Readable 0)) new → ⊥
  -- what it isn't noted to have heard then, or two pieces of news at once
  pub unnoted : TellStep (owned (server_with all_came) heard_nothing) (Some (Opened 0)) (owned (server_with all_came) heard_nothing) → ⊥
  pub two : TellStep (owned (server_with all_came) heard_nothing) (Some (Opened 0)) (owned (server_with all_came) told_first) → ⊥
  -- that a half came to its end before it is told that it was stopped, or so that a stop of it is to be told still
  pub stop_first : (new : Owned) → TellStep (owned (client_with stopped_half) heard_nothing) (Some (ResetAcked 0)) new → ⊥
  pub stop_left : (e : End) → TellStep (owned e heard_nothing) (Some (Finished 0)) (owned e (record heard_nothing { sent = first })) → ⊥
  pub stop_left_of_reset : (e : End) → TellStep (owned e heard_nothing) (Some (ResetAcked 0)) (owned e (record heard_nothing { sent = first })) → ⊥
  -- with a change of the end
  pub changed : TellStep (owned (server_with all_came) heard_nothing) (Some (Opened 0)) (owned (server_with fresh) heard_one) → ⊥

-- what calls note
pub record CallsNote : Type 0 where
  -- a stream of which nothing new is left to read is told of again, and another one isn't
  pub dry : heard_after (ReadUpTo 0 10) (Ok reads.Wait, []) (server_with fresh) told_first ≡ record told_first { readable = set.remove first 0 }
  pub more : heard_after (ReadUpTo 0 10) (Ok reads.Wait, []) (server_with reset_came) told_first ≡ told_first
  pub stopped : heard_after (Stop 0 7) (Ok tt) (server_with fresh) told_first ≡ record told_first { readable = set.remove first 0 }
  -- a write is waited for that took fewer bytes, and none that took all, or was refused
  pub short : heard_after (Write 0 abc) (Ok 2) (client_with begun) heard_nothing ≡ record heard_nothing { short = first }
  pub whole : heard_after (Write 0 abc) (Ok 3) (client_with begun) heard_nothing ≡ heard_nothing
  pub refused : heard_after (Write 0 abc) (Err uses.Finished) (client_with finished) heard_nothing ≡ heard_nothing
  -- a stream is waited for where the peer's count is reached, and not for want of memory
  pub wanted : heard_after (Open Bidi) (Err (opening.Blocked 1)) (client_with begun) heard_nothing ≡ record heard_nothing { wants = first }
  pub no_room : heard_after (Open Bidi) (Err opening.NoMemory) (client_with begun) heard_nothing ≡ heard_nothing
  -- the present limit holds the peer back; one that rose since doesn't, nor that of a stream whose final size is known
  pub present : heard_after (TakeFrame (data_blocked 5000)) (Ok taken.Took) raised heard_nothing ≡ record heard_nothing { conn_blocked = true }
  pub risen : heard_after (TakeFrame (data_blocked 4999)) (Ok taken.Took) raised heard_nothing ≡ heard_nothing
  pub stream : heard_after (TakeFrame (stream_data_blocked 0 1024)) (Ok taken.Took) (server_with fresh) heard_one ≡ record heard_one { blocked = first }
  pub all_known : heard_after (TakeFrame (stream_data_blocked 0 1024)) (Ok taken.Took) (server_with all_came) heard_one ≡ heard_one
  pub count : heard_after (TakeFrame (streams_blocked Bidi 0)) (Ok taken.Took) (record raised { granted_bidi = 0 }) heard_nothing ≡ record heard_nothing { counts_blocked = first }
  -- a payload or a frame that found no memory tells nothing yet
  pub again : (payload : List ℕ) → heard_after (Receive 0 payload) (Ok received.NoMemory) raised heard_nothing ≡ heard_nothing
  pub frame_again : heard_after (TakeFrame (data_blocked 5000)) (Err faults.NoMemory) raised heard_nothing ≡ heard_nothing

-- so nothing is noted
pub record NotNotedSo : Type 0 where
  -- a stream that opened, by what is read of it
  pub opened : (e : End) → OwnedStep (owned e heard_nothing) (ReadUpTo 0 10) (Ok reads.Wait, []) (owned (server_with fresh) heard_one) → ⊥
  -- that a stream is readable, but as its owner asks
  pub readable : (e : End) → OwnedStep (owned e heard_one) (ReadUpTo 0 10) (Ok reads.Wait, []) (owned (server_with all_came) told_first) → ⊥

-- no news is over by itself
pub record NotOverYet : Type 0 where
  pub opened : IsOver (owned (server_with fresh) heard_nothing) (Opened 0) → ⊥
  pub reset : IsOver (owned (server_with reset_came) heard_one) (Readable 0) → ⊥
  pub room : IsOver (owned (client_with begun) heard_nothing) (Writable 0) → ⊥
  pub finished : IsOver (owned (client_with finished) heard_nothing) (Finished 0) → ⊥

pub record NotOwnedSo : Type 0 where
  pub news : NoNewsOf
  pub told : NotToldSo
  pub calls : CallsNote
  pub noted : NotNotedSo
  pub over : NotOverYet
