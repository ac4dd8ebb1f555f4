-- Of laws.
-- What an end that is asked tells, and doesn't count (RFC 9000, sections 2.2, 4.1 and 13.3).
use Rattle.std.specs.Prelude.{◌≡◌, ℕ, None, Some, false, true, drop, List, [], ◌∷◌, Ok, Err}
use Rattle.std.specs.FinMap as map
use Rattle.qs_ranges.specs.Numbers.{numbers}
use Rattle.qs_machine.specs.Asking.{IsPeeked, all_noted, credit_left, room, unsent, acked_below, taken, all_unsent, all_kept}
use Rattle.qs_machine.specs.Credit.{all_taken}
use Rattle.qs_recv.specs.Lane.{take_stream, take_reset, stop, stop_and_discard, RecvLane}
use Rattle.qs_calls.specs.declared.uses.UseFault.{UseFault}
use Rattle.qs_recv.specs.Peek.{IsFront}
use Rattle.qs_recv.specs.declared.half.Peek.{Peek}
use Rattle.qs_recv.specs.declared.half.Peek.TheVariants as peeks
use Rattle.qs_machine.specs.SmallEnds.{client_with, server_with, abc, fresh, three_came, all_came, wrote, sent, second_acked, finished, reset_half}
use Rattle.qs_machine.specs.ExclusionsOwner.{over, prudent, bounded, two_with}

-- what the connection's credit lets go (section 4.1)
pub record CreditIsSent : Type 0 where
  -- what was written doesn't use it
  pub written : credit_left (client_with wrote) ≡ 4096
  -- what was sent does
  pub sent_three : credit_left (client_with sent) ≡ 4093

-- how many bytes a write takes (sections 2.2 and 2.4)
pub record RoomIsTaken : Type 0 where
  -- bytes that are kept take room
  pub kept : room (client_with wrote) 0 ≡ 2045
  -- credit doesn't count
  pub beyond : room (client_with (record wrote { limit = 0 })) 0 ≡ 2045
  -- but where writes keep within it: that of the stream
  pub within_its : room (prudent (client_with (record wrote { limit = 5 }))) 0 ≡ 2
  -- and that of the connection, beside what waits (section 4.1)
  pub within_all : room (record (prudent (client_with wrote)) { known_data = 4 }) 0 ≡ 1
  -- where what all halves keep is bounded, it is what that leaves, and of no stream any where nothing is left
  pub within_window : room (bounded 5 (client_with wrote)) 0 ≡ 2
  pub beside_other : room (bounded 5 (two_with sent)) 4 ≡ 2
  pub used_up : room (bounded 3 (two_with sent)) 4 ≡ 0
  -- none is taken past the greatest offset (section 16)
  pub last : room (client_with (record wrote { written = 4611686018427387902 })) 0 ≡ 1
  -- nor of a stream that was finished
  pub after_finish : room (client_with finished) 0 ≡ 0
  -- or reset
  pub after_reset : room (client_with reset_half) 0 ≡ 0
  -- nor of one that isn't open
  pub unopened : room (client_with wrote) 4 ≡ 0
  -- nor by an end that closed
  pub closed : room (over (client_with wrote)) 0 ≡ 0

-- how many bytes are still to be sent for the first time (sections 2.2 and 3.1)
pub record UnsentIsNew : Type 0 where
  pub written : unsent (client_with wrote) 0 ≡ 3
  -- none that was sent
  pub sent_three : unsent (client_with sent) 0 ≡ 0
  -- and none after a reset
  pub after_reset : unsent (client_with reset_half) 0 ≡ 0
  -- of all streams the same
  pub all_written : all_unsent (client_with wrote) ≡ 3
  pub all_sent_three : all_unsent (client_with sent) ≡ 0
  pub all_after_reset : all_unsent (client_with reset_half) ≡ 0

-- what is kept (section 13.3)
pub record KeptUntilAcked : Type 0 where
  -- what was written, sent or not
  pub written : all_kept (client_with wrote) ≡ 3
  pub sent_three : all_kept (client_with sent) ≡ 3
  -- not what was acknowledged
  pub two_acked : all_kept (client_with (record sent { acked = numbers 0 2; kept = drop 2 abc })) ≡ 1
  -- and none after a reset
  pub after_reset : all_kept (client_with reset_half) ≡ 0

-- below which offset each is acknowledged (section 13.3)
pub record AckedInARow : Type 0 where
  pub two : acked_below (client_with (record sent { acked = numbers 0 2 })) 0 ≡ Some 2
  -- one further on doesn't count
  pub second : acked_below (client_with second_acked) 0 ≡ Some 0
  -- there is none of a stream that isn't open
  pub unopened : acked_below (client_with sent) 4 ≡ None

-- how many runs the offsets make that came (section 2.2)
pub record RunsAreNoted : Type 0 where
  -- nothing came
  pub none : all_noted (server_with fresh) ≡ 0
  -- bytes in a row are one run
  pub row : all_noted (server_with three_came) ≡ 1
  -- bytes behind a gap another
  pub gap : all_noted (server_with (take_stream three_came 5 abc false)) ≡ 2
  -- also of a stream that was stopped
  pub after_stop : all_noted (server_with (stop (take_stream three_came 5 abc false) 0)) ≡ 2
  -- or forgotten
  pub forgotten : all_noted (server_with (stop_and_discard (take_stream three_came 5 abc false) 0)) ≡ 2
  -- and none of one that was reset, or of which the end was told, or would be
  pub after_reset : all_noted (server_with (take_reset three_came 0 8)) ≡ 0
  pub told : all_noted (server_with (record all_came { reader_done = true })) ≡ 0
  pub forgotten_end : all_noted (server_with (stop_and_discard all_came 0)) ≡ 0

-- how many bytes count as taken (sections 3.5 and 4.2)
pub record BytesAreTaken : Type 0 where
  -- bytes that were read
  pub read : taken (server_with (record three_came { arrived = record three_came.arrived { read_count = 2 } })) 0 ≡ Some 2
  -- none that came and wait
  pub waiting : taken (server_with three_came) 0 ≡ Some 0
  -- all of a stream that was reset
  pub after_reset : taken (server_with (take_reset three_came 0 8)) 0 ≡ Some 8
  -- in all each stream counts once
  pub sum : all_taken (server_with (take_reset three_came 0 8)) ≡ 8
  -- and there are none of a stream that has no receiving half here
  pub unopened : taken (server_with three_came) 4 ≡ None

-- one byte came
abbrev pub one_stored : RecvLane
one_stored = record fresh { arrived = record fresh.arrived { stored = map.insert map.empty 0 97; received = numbers 0 1 } }

-- the second came, too
abbrev pub two_stored : RecvLane
two_stored = record one_stored { arrived = record one_stored.arrived { received = numbers 0 2 } }

-- reset with code 7
abbrev pub was_reset : RecvLane
was_reset = record fresh { final_size = Some 0; reset_code = Some 7 }

-- a look doesn't tell so (sections 2.2, 3.2, 3.5 and 10.2)
pub record NoSuchLook : Type 0 where
  -- of bytes where none came
  pub none_came : (bytes : List ℕ) → IsFront fresh bytes → ⊥
  -- of none where some came
  pub none_shown : IsFront three_came [] → ⊥
  -- of other bytes than came
  pub other : IsFront one_stored (98 ∷ []) → ⊥
  -- of the first byte alone where the second came, too
  pub in_part : IsFront two_stored (97 ∷ []) → ⊥
  -- of bytes of a stream that was stopped
  pub after_stop : (bytes : List ℕ) → IsFront (stop three_came 7) bytes → ⊥
  -- of an end that didn't come
  pub no_end : IsPeeked (server_with fresh) 0 (Ok peeks.End) → ⊥
  -- of nothing where a reset came, or of another code
  pub after_reset : IsPeeked (server_with was_reset) 0 (Ok peeks.Wait) → ⊥
  pub other_code : IsPeeked (server_with was_reset) 0 (Ok (peeks.Reset 8)) → ⊥
  -- of a stream that isn't open, or at an end that closed
  pub unopened : (peek : Peek) → IsPeeked (server_with fresh) 4 (Ok peek) → ⊥
  pub closed : (peek : Peek) → IsPeeked (over (server_with fresh)) 0 (Ok peek) → ⊥
  -- nor is it refused where it may be read
  pub refused : (fault : UseFault) → IsPeeked (server_with fresh) 0 (Err fault) → ⊥

pub record NotAsked : Type 0 where
  pub looks : NoSuchLook
  pub kept : KeptUntilAcked
  pub bytes : BytesAreTaken
  pub runs : RunsAreNoted
  pub credit : CreditIsSent
  pub taken : RoomIsTaken
  pub new : UnsentIsNew
  pub acked : AckedInARow
