-- Of laws.
-- What is no news, and what an owner didn't hear by it (RFC 9000, sections 2.2 to 2.4, 3 and 4).
use Rattle.std.specs.Prelude.{true, false, [], ◌∷◌, None, Some, Ok, Err}
use Rattle.qs_ranges.specs.declared.NoMemory.{NoMemory}
use Rattle.qs_wire.specs.declared.stream_id.Dir.TheVariants.{Bidi}
use Rattle.qs_calls.specs.declared.news.News.TheVariants.{Opened, Readable, Writable, Stopped, Finished, ResetAcked, Ended, Available, DataBlocked}
use Rattle.qs_recv.specs.Lane.{RecvLane}
use Rattle.qs_send.specs.declared.piece.Item.TheVariants as items
use Rattle.qs_machine.specs.Seen.{Control}
use Rattle.qs_machine.specs.Tables.{no_streams}
use Rattle.qs_machine.specs.Heard.{Hearing, heard_nothing, nothing_blocked, IsNews, IsFirstNews, IsHeardBy, TakesMemory, IsNextNews, IsNoted, WillWrite, IsReadOn}
use Rattle.qs_machine.specs.SmallEnds.{client_with, server_with, raised, only, begun, finished, reset_half, fresh, all_came}
use Rattle.qs_machine.specs.ExclusionsOwner.{over}

-- an owner that heard of the peer's first stream, and of nothing else
abbrev pub heard_one : Hearing
heard_one = record heard_nothing { opened_bidi = 1 }

-- the peer said that the connection's limit holds it back, or that of its first stream
abbrev pub conn_blocked : Hearing
conn_blocked = record heard_nothing { blocked = record nothing_blocked { conn = true } }

abbrev pub stream_blocked : Hearing
stream_blocked = record heard_nothing { blocked = record nothing_blocked { streams = only true } }

-- a reset came before any byte
abbrev pub reset_came : RecvLane
reset_came = record fresh { final_size = Some 0; reset_code = Some 7 }

-- that is no news
pub record NoNews : Type 0 where
  -- a stream that was heard of, one of its own, or one that isn't open, opens
  pub heard_of : IsNews (server_with fresh) heard_one (Opened 0) → ⊥
  pub own : IsNews (client_with begun) heard_nothing (Opened 0) → ⊥
  pub unopened : IsNews (server_with fresh) heard_one (Opened 4) → ⊥
  -- one is readable that was heard of, or to which nothing came
  pub read_later : IsNews (server_with all_came) (record heard_one { readable = only true }) (Readable 0) → ⊥
  pub nothing_came : IsNews (server_with fresh) heard_one (Readable 0) → ⊥
  -- one takes a byte that nobody waits for, or has no room
  pub unasked : IsNews (client_with begun) heard_nothing (Writable 0) → ⊥
  pub full : IsNews (client_with (record begun { buffer = 0 })) (record heard_nothing { short = only true }) (Writable 0) → ⊥
  -- one was stopped that wasn't, or with another code
  pub not_stopped : IsNews (client_with begun) heard_nothing (Stopped 0 7) → ⊥
  pub other_code : IsNews (client_with (record reset_half { stopped = Some 7 })) heard_nothing (Stopped 0 8) → ⊥
  -- all is acknowledged of one whose end isn't, or that was reset
  pub unacked : IsNews (client_with finished) heard_nothing (Finished 0) → ⊥
  pub was_reset : IsNews (client_with (record reset_half { reset_acked = true })) heard_nothing (Finished 0) → ⊥
  -- the reset of one that wasn't reset is acknowledged
  pub not_reset : IsNews (client_with finished) heard_nothing (ResetAcked 0) → ⊥
  -- a stream may be opened for which nobody waits, or at a closed end
  pub not_wanted : IsNews (client_with begun) heard_nothing (Available Bidi) → ⊥
  pub closed : IsNews (over (client_with begun)) (record heard_nothing { wants_bidi = true }) (Available Bidi) → ⊥
  -- the connection's limit holds the peer back, of which it said nothing, or at a closed end
  pub unsaid : IsNews (server_with fresh) heard_nothing DataBlocked → ⊥
  pub said_before : IsNews (over (server_with fresh)) conn_blocked DataBlocked → ⊥

-- the first piece of news isn't told so
pub record NotFirst : Type 0 where
  -- where there is some, as none
  pub kept_back : IsFirstNews (server_with all_came) heard_nothing None → ⊥
  -- a stream is readable before it opened
  pub out_of_order : IsFirstNews (server_with all_came) heard_nothing (Some (Readable 0)) → ⊥

-- memory isn't asked for
pub record NotRefused : Type 0 where
  -- for a stream that opened, whatever is told behind it
  pub opened : (refused : NoMemory) → IsNextNews (server_with all_came) heard_nothing (Err refused) heard_nothing → ⊥
  -- for a stream that has a mark
  pub marked : (refused : NoMemory) → IsNextNews (server_with reset_came) (record heard_one { readable = only false }) (Err refused) (record heard_one { readable = only false }) → ⊥
  -- and then something is noted
  pub noted : (refused : NoMemory) → IsNextNews (server_with all_came) heard_one (Err refused) (record heard_one { readable = only true }) → ⊥

-- a half came to its end: there is a mark of its stream among both kinds
abbrev pub ends_marked : Hearing
ends_marked = record heard_nothing { stopped = only false; sent = only false }

-- memory isn't taken
pub record NotTaken : Type 0 where
  -- to tell of an end, where both marks have a place
  pub finished : TakesMemory (Finished 0) ends_marked → ⊥
  pub reset : TakesMemory (ResetAcked 0) ends_marked → ⊥
  -- to tell of a stop, for the place among those that ended
  pub stopped : TakesMemory (Stopped 0 7) (record heard_nothing { stopped = only false }) → ⊥

-- so it isn't noted
pub record NotNoted : Type 0 where
  -- what was told isn't kept, or of another kind
  pub unkept : IsHeardBy (Readable 0) heard_one heard_one → ⊥
  pub another : IsHeardBy (Readable 0) heard_one (record heard_one { ended = only true }) → ⊥
  -- an end is told, and a stop of that half is to be told still
  pub stop_left : IsHeardBy (Finished 0) heard_nothing (record heard_nothing { sent = only true }) → ⊥
  pub stop_left_of_reset : IsHeardBy (ResetAcked 0) heard_nothing (record heard_nothing { sent = only true }) → ⊥
  -- of a stream that is over or was stopped, more is noted than that
  pub stop_beside : IsHeardBy (Ended 0) heard_nothing (record heard_nothing { ended = only true; stopped = only true }) → ⊥
  pub end_beside : IsHeardBy (Stopped 0 7) heard_nothing (record heard_nothing { stopped = only true; sent = only true }) → ⊥
  -- a stream opened, and two were heard of
  pub two_opened : IsHeardBy (Opened 0) heard_nothing (record heard_nothing { opened_bidi = 2 }) → ⊥
  -- a write that is cut short isn't kept
  pub short : WillWrite (client_with begun) 0 4000 heard_nothing (Ok tt) heard_nothing → ⊥
  -- memory is asked for a write that isn't, or for a stream that has a mark
  pub marked : (refused : NoMemory) → WillWrite (client_with begun) 0 4000 (record heard_nothing { short = only false }) (Err refused) (record heard_nothing { short = only false }) → ⊥
  pub whole : (refused : NoMemory) → WillWrite (client_with begun) 0 1 heard_nothing (Err refused) heard_nothing → ⊥
  -- a place is given up, as a stream is noted or read empty
  pub place_lost : IsHeardBy (Readable 0) (record heard_one { readable = record no_streams { client_bidi = false ∷ false ∷ [] } }) (record heard_one { readable = only true }) → ⊥
  pub place_dropped : IsReadOn (server_with fresh) 0 (record heard_one { readable = only true }) (record heard_one { readable = no_streams }) → ⊥
  -- or taken, of a stream that isn't noted
  pub place_more : IsHeardBy (Readable 0) heard_one (record heard_one { readable = record no_streams { client_bidi = true ∷ false ∷ [] } }) → ⊥
  pub place_taken : IsReadOn (server_with fresh) 0 heard_one (record heard_one { readable = only false }) → ⊥
  -- a stream that was read empty isn't heard of again
  pub read_empty : IsReadOn (server_with fresh) 0 (record heard_one { readable = only true }) (record heard_one { readable = only true }) → ⊥
  -- what the peer said is told, and is to be told again
  pub told_again : IsHeardBy DataBlocked conn_blocked conn_blocked → ⊥
  -- a limit that rose since is noted, or the present one isn't, or that of a stream whose final size is known is
  pub risen : IsNoted raised (Control (items.DataBlocked 4999)) heard_nothing (Ok tt) conn_blocked → ⊥
  pub present : IsNoted raised (Control (items.DataBlocked 5000)) heard_nothing (Ok tt) heard_nothing → ⊥
  pub all_known : IsNoted (server_with all_came) (Control (items.StreamDataBlocked 0 1024)) heard_nothing (Ok tt) stream_blocked → ⊥

pub record NotHeard : Type 0 where
  pub news : NoNews
  pub first : NotFirst
  pub refused : NotRefused
  pub taken : NotTaken
  pub noted : NotNoted
