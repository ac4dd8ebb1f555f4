-- Of laws.
-- Which answers an end's owner isn't given, and what its calls don't leave (RFC 9000, sections 2, 3 and 4).
use Rattle.std.specs.Prelude.{◌≡◌, ℕ, ◌+◌, ◌^◌, Bool, true, false, List, [], ◌∷◌, Option, None, Some, is_some, option_map, Result, Ok, Err}
use Rattle.qs_wire.specs.declared.stream_id.Dir.TheVariants.{Bidi, Uni}
use Rattle.qs_recv.specs.Lane.{RecvLane, new_lane as new_recv_lane, take_stream, take_reset, stop, stop_and_discard}
use Rattle.qs_recv.specs.declared.credit.Share.{Share}
use Rattle.qs_recv.specs.declared.credit.Share.TheVariants.{Half, Quarter, Eighth}
use Rattle.qs_recv.specs.declared.half.Read.TheVariants as reads
use Rattle.qs_send.specs.Lane.{SendLane}
use Rattle.qs_calls.specs.declared.closing.Closed.TheVariants.{ByPeer}
use Rattle.qs_calls.specs.Settings.{limits_of, default_tuning}
use Rattle.qs_calls.specs.declared.reading.Consumed.{Consumed}
use Rattle.qs_calls.specs.declared.settings.SetFault.TheVariants as setting
use Rattle.qs_calls.specs.declared.uses.OpenFault.TheVariants as opening
use Rattle.qs_calls.specs.declared.uses.UseFault.{UseFault}
use Rattle.qs_calls.specs.declared.uses.UseFault.TheVariants.{NoSuchStream, NoMemory, Closed}
use Rattle.qs_machine.specs.Ends.{End, first_present, send_lane, recv_lane, opens}
use Rattle.qs_machine.specs.Credit.{settle, recv_ended}
use Rattle.qs_machine.specs.Owner.{OpenStep, AcceptStep, AcceptOfStep, WriteStep, FinishStep, ResetStep, StopStep, ReadStep, ConsumeStep, StopAndDiscardStep}
use Rattle.qs_machine.specs.Raising.{limits_raised, RaiseStep}
use Rattle.qs_machine.specs.Setting.{ConnWindow, Grant, StreamWindow, with_setting, SetStep}
use Rattle.qs_machine.specs.Examples.{standard, server, client_of, told_reset}
use Rattle.qs_machine.specs.SmallEnds.{client_with, server_with, abc, begun, wrote, sent, finished, reset_half, fresh, three_came, all_came}

-- a client that its peer allows no bidirectional stream
abbrev pub shut_out : End
shut_out = client_of (record standard { grant_bidi = 0 })

-- an end that saw its peer close
abbrev pub over : End → End
over e = record e { closed = Some (ByPeer 0) }

-- the same, and its owner chose to read on
abbrev pub reading_on : End → End
reading_on e = record (over e) { tuning = record default_tuning { reads_when_closed = true } }

-- `open` doesn't answer so (sections 2.1 and 4.6)
pub record NoSuchOpening : Type 0 where
  -- with a stream past the peer's count
  pub past_count : (n : ℕ) (new : End) → OpenStep shut_out Bidi (Ok n) new → ⊥
  -- as blocked, within it
  pub within_count : (new : End) → OpenStep (client_of standard) Bidi (Err (opening.Blocked 8)) new → ⊥
  -- as blocked at another count
  pub other_count : (new : End) → OpenStep shut_out Bidi (Err (opening.Blocked 1)) new → ⊥
  -- with another stream than the next
  pub other_stream : (new : End) → OpenStep (client_of standard) Bidi (Ok 4) new → ⊥
  -- with a stream of its peer's
  pub peers_stream : (new : End) → OpenStep (client_of standard) Bidi (Ok 1) new → ⊥
  -- with a stream, once the end closed
  pub closed : (n : ℕ) (new : End) → OpenStep (over (client_of standard)) Bidi (Ok n) new → ⊥
  -- where it doesn't note that one was wanted (section 19.14)
  pub not_noted : (new : End) → OpenStep shut_out Bidi (Err (opening.Blocked 0)) new → new.wanted_bidi ≡ None → ⊥
  -- for want of memory, with the stream open
  pub opened : (new : End) → OpenStep (client_of standard) Bidi (Err opening.NoMemory) new → new.sends.client_bidi ≡ begun ∷ [] → ⊥

-- `accept` doesn't answer so (section 2.1)
pub record NoSuchAccepting : Type 0 where
  -- with a stream that isn't open
  pub unopened : (n : ℕ) (new : End) → AcceptStep (server standard) (Some n) new → ⊥
  -- with none, where one is
  pub opened : (new : End) → AcceptStep (server_with fresh) None new → ⊥
  -- with a stream that was given out
  pub twice : (n : ℕ) (new : End) → AcceptStep (record (server_with fresh) { accepted_bidi = 1 }) (Some n) new → ⊥
  -- with a stream, once the end closed
  pub closed : (n : ℕ) (new : End) → AcceptStep (over (server_with fresh)) (Some n) new → ⊥
  -- where the stream is given out again
  pub not_noted : (new : End) → AcceptStep (server_with fresh) (Some 0) new → new.accepted_bidi ≡ 0 → ⊥

-- a server whose peer opened stream 0 and stream 2, which goes one way
abbrev pub one_way : End
one_way = record (server_with fresh) { recvs = record { client_bidi = fresh ∷ []; server_bidi = []; client_uni = fresh ∷ []; server_uni = [] } }

-- nor `accept_of` so (section 2.1)
pub record NoSuchAcceptingOf : Type 0 where
  -- with none, where a stream of that direction is
  pub opened : (new : End) → AcceptOfStep one_way Uni None new → ⊥
  -- with one of the other direction
  pub other_way : (new : End) → AcceptOfStep one_way Uni (Some 0) new → ⊥
  -- nor where that one alone is
  pub other_alone : (n : ℕ) (new : End) → AcceptOfStep (server_with fresh) Uni (Some n) new → ⊥
  -- with a stream that was given out
  pub twice : (n : ℕ) (new : End) → AcceptOfStep (record (server_with fresh) { accepted_bidi = 1 }) Bidi (Some n) new → ⊥
  -- with a stream, once the end closed
  pub closed : (n : ℕ) (new : End) → AcceptOfStep (over (server_with fresh)) Bidi (Some n) new → ⊥
  -- where the stream is given out again
  pub not_noted : (new : End) → AcceptOfStep (server_with fresh) Bidi (Some 0) new → new.accepted_bidi ≡ 0 → ⊥
  -- or one of the other direction isn't
  pub other_noted : (new : End) → AcceptOfStep one_way Uni (Some 2) new → new.accepted_bidi ≡ 1 → ⊥

-- `write`, `finish` and `reset` don't answer so (sections 2.2, 2.4 and 3.1)
pub record NoSuchSending : Type 0 where
  -- with fewer bytes than there is room for
  pub fewer : (new : End) → WriteStep (client_with begun) 0 abc (Ok 2) new → ⊥
  -- with more
  pub more : (new : End) → WriteStep (client_with (record begun { buffer = 2 })) 0 abc (Ok 3) new → ⊥
  -- on a stream that isn't open
  pub unopened : (n : ℕ) (new : End) → WriteStep (client_with begun) 4 abc (Ok n) new → ⊥
  -- on the peer's unidirectional stream
  pub not_its : (new : End) → WriteStep (record (server standard) { recvs = record { client_bidi = []; server_bidi = []; client_uni = fresh ∷ []; server_uni = [] } }) 2 abc (Err NoSuchStream) new → ⊥
  -- once the stream was finished
  pub after_finish : (n : ℕ) (new : End) → WriteStep (client_with finished) 0 abc (Ok n) new → ⊥
  -- once it was reset
  pub after_reset : (n : ℕ) (new : End) → WriteStep (client_with reset_half) 0 abc (Ok n) new → ⊥
  -- once the end closed
  pub closed : (n : ℕ) (new : End) → WriteStep (over (client_with begun)) 0 abc (Ok n) new → ⊥
  -- for want of memory, with bytes accepted
  pub accepted : WriteStep (client_with begun) 0 abc (Err NoMemory) (client_with wrote) → ⊥
  -- with other bytes
  pub other_bytes : (new : End) → WriteStep (client_with begun) 0 abc (Ok 3) new → send_lane new 0 ≡ Some begun → ⊥
  -- finished twice
  pub finish_twice : (new : End) → FinishStep (client_with finished) 0 (Ok tt) new → ⊥
  -- finished, and not finished
  pub unfinished : (new : End) → FinishStep (client_with begun) 0 (Ok tt) new → send_lane new 0 ≡ Some begun → ⊥
  -- reset twice
  pub reset_twice : (new : End) → ResetStep (client_with reset_half) 0 8 (Ok tt) new → ⊥
  -- reset with another final size than what was sent (section 4.5)
  pub other_size : (new : End) → ResetStep (client_with wrote) 0 7 (Ok tt) new → send_lane new 0 ≡ Some (record wrote { kept = []; was_reset = Some (record { code = 7; size = 3 }) }) → ⊥
  -- reset, and its bytes kept still (section 13.3)
  pub still_kept : (new : End) → ResetStep (client_with wrote) 0 7 (Ok tt) new → send_lane new 0 ≡ Some (record wrote { was_reset = Some (record { code = 7; size = 0 }) }) → ⊥

-- an end whose writes keep within credit
abbrev pub prudent : End → End
prudent e = record e { tuning = record default_tuning { within_credit = true } }

-- nor `write` so, where it keeps within credit (sections 2.2 and 4.1)
pub record NoSuchWriting : Type 0 where
  -- with more bytes than the stream's limit lets go
  pub past_its : (new : End) → WriteStep (prudent (client_with (record begun { limit = 2 }))) 0 abc (Ok 3) new → ⊥
  -- with fewer
  pub fewer : (new : End) → WriteStep (prudent (client_with (record begun { limit = 2 }))) 0 abc (Ok 1) new → ⊥
  -- with more than the connection's lets go
  pub past_all : (new : End) → WriteStep (record (prudent (client_with begun)) { known_data = 2 }) 0 abc (Ok 3) new → ⊥
  -- beside what waits to be sent
  pub past_waiting : (new : End) → WriteStep (record (prudent (client_with wrote)) { known_data = 5 }) 0 abc (Ok 3) new → ⊥
  -- for want of memory, where there is no credit for any byte
  pub no_memory : (new : End) → WriteStep (record (prudent (client_with begun)) { known_data = 0 }) 0 abc (Err NoMemory) new → ⊥
  -- as one that keeps within it, where writes don't
  pub unasked : (new : End) → WriteStep (client_with (record begun { limit = 2 })) 0 abc (Ok 2) new → ⊥

-- an end all of whose halves together keep so many bytes at most
abbrev pub bounded : ℕ → End → End
bounded window e = record e { tuning = record default_tuning { send_window = Some window } }

-- a client that opened streams 0 and 4, the first with this half
abbrev pub two_with : SendLane → End
two_with l = record (client_with l) { sends = record { client_bidi = l ∷ begun ∷ []; server_bidi = []; client_uni = []; server_uni = [] } }

-- nor `write` so, where what all halves keep is bounded (sections 2.2 and 13.3)
pub record NoSuchKeeping : Type 0 where
  -- with more bytes than the window
  pub past : (new : End) → WriteStep (bounded 2 (client_with begun)) 0 abc (Ok 3) new → ⊥
  -- with fewer
  pub fewer : (new : End) → WriteStep (bounded 2 (client_with begun)) 0 abc (Ok 1) new → ⊥
  -- with more than it leaves beside what the half keeps
  pub past_its : (new : End) → WriteStep (bounded 5 (client_with wrote)) 0 abc (Ok 3) new → ⊥
  -- or another one, also what was sent
  pub past_other : (new : End) → WriteStep (bounded 5 (two_with sent)) 4 abc (Ok 3) new → ⊥
  -- for want of memory, where nothing is left
  pub no_memory : (new : End) → WriteStep (bounded 3 (two_with wrote)) 4 abc (Err NoMemory) new → ⊥
  -- with fewer, because of what was let go
  pub let_go : (new : End) → WriteStep (bounded 3 (two_with reset_half)) 4 abc (Ok 0) new → ⊥

-- no byte came, and the end did
abbrev pub ended_half : RecvLane
ended_half = record fresh { final_size = Some 0 }

-- `read`, `consume` and `stop` don't answer so (sections 2.2, 3.2 and 3.5)
pub record NoSuchReading : Type 0 where
  -- with bytes that didn't come
  pub none_came : (n : ℕ) (bytes : List ℕ) (new : End) → ReadStep (server_with fresh) 0 10 (Ok (reads.Bytes n)) bytes new → ⊥
  -- with the end, before it came
  pub no_end : (bytes : List ℕ) (new : End) → ReadStep (server_with fresh) 0 10 (Ok reads.End) bytes new → ⊥
  -- on a stream that isn't open
  pub unopened : (bytes : List ℕ) (new : End) → ReadStep (server_with fresh) 4 10 (Ok reads.Wait) bytes new → ⊥
  -- once the end closed
  pub closed : (bytes : List ℕ) (new : End) → ReadStep (over (server_with fresh)) 0 10 (Ok reads.Wait) bytes new → ⊥
  -- as closed, where its owner chose to read on
  pub read_on : (bytes : List ℕ) (new : End) → ReadStep (reading_on (server_with fresh)) 0 10 (Err Closed) bytes new → ⊥
  pub consumed_on : (new : End) → ConsumeStep (reading_on (server_with fresh)) 0 10 (Err Closed) new → ⊥
  -- with bytes that didn't come, where it did
  pub none_came_on : (n : ℕ) (bytes : List ℕ) (new : End) → ReadStep (reading_on (server_with fresh)) 0 10 (Ok (reads.Bytes n)) bytes new → ⊥
  -- as waiting, once the peer's reset came
  pub after_reset : (bytes : List ℕ) (new : End) → ReadStep (server_with (record fresh { final_size = Some 0; reset_code = Some 7 })) 0 10 (Ok reads.Wait) bytes new → ⊥
  -- with bytes, once it stopped
  pub after_stop : (n : ℕ) (bytes : List ℕ) (new : End) → ReadStep (server_with (stop three_came 7)) 0 10 (Ok (reads.Bytes n)) bytes new → ⊥
  -- bytes that didn't come are taken without a copy
  pub consumed_none : (n : ℕ) (at_end : Bool) (new : End) → ConsumeStep (server_with fresh) 0 10 (Ok (record { read = reads.Bytes n; at_end = at_end })) new → ⊥
  -- the end is reached, before it came
  pub consumed_early : (new : End) → ConsumeStep (server_with fresh) 0 10 (Ok (record { read = reads.Wait; at_end = true })) new → ⊥
  -- it isn't, where it came and no byte is left
  pub consumed_late : (new : End) → ConsumeStep (server_with ended_half) 0 0 (Ok (record { read = reads.End; at_end = false })) new → ⊥
  -- it is, and isn't told
  pub consumed_untold : (answer : Result Consumed UseFault) (new : End) → ConsumeStep (server_with ended_half) 0 0 answer new → (l : RecvLane) → recv_lane new 0 ≡ Some l → l.reader_done ≡ false → ⊥
  -- on a stream that isn't open
  pub consumed_unopened : (answer : Consumed) (new : End) → ConsumeStep (server_with fresh) 4 10 (Ok answer) new → ⊥
  -- stopped with another code than the first
  pub second_stop : (new : End) → StopStep (server_with (stop fresh 7)) 0 8 (Ok tt) new → (l : RecvLane) → recv_lane new 0 ≡ Some l → l.stop_code ≡ Some 8 → ⊥
  -- stopped once a reset was told (section 3.2)
  pub stop_of_told : (new : End) → StopStep (server_with (record fresh { final_size = Some 0; reset_code = Some 5; reader_done = true })) 0 7 (Ok tt) new → (l : RecvLane) → recv_lane new 0 ≡ Some l → is_some l.stop_code ≡ true → ⊥
  -- without a copy, once the end closed
  pub consumed_closed : (answer : Consumed) (new : End) → ConsumeStep (over (server_with fresh)) 0 10 (Ok answer) new → ⊥
  -- stopped, once the end closed, also where its owner reads on
  pub stop_closed : (new : End) → StopStep (over (server_with fresh)) 0 7 (Ok tt) new → ⊥
  pub stop_on : (new : End) → StopStep (reading_on (server_with fresh)) 0 7 (Ok tt) new → ⊥

-- A stream isn't forgotten so, and what is forgotten ended with its end alone (sections 3.2 and 3.5)
pub record NoSuchForgetting : Type 0 where
  -- once the end closed, also where its owner reads on
  pub closed : (new : End) → StopAndDiscardStep (over (server_with fresh)) 0 7 (Ok tt) new → ⊥
  pub closed_on : (new : End) → StopAndDiscardStep (reading_on (server_with fresh)) 0 7 (Ok tt) new → ⊥
  -- where it isn't open
  pub unopened : (new : End) → StopAndDiscardStep (server_with fresh) 4 7 (Ok tt) new → ⊥
  -- without a stop
  pub not_stopped : (new : End) → StopAndDiscardStep (server_with fresh) 0 7 (Ok tt) new → (l : RecvLane) → recv_lane new 0 ≡ Some l → l.stop_code ≡ None → ⊥
  -- with another code than the first
  pub second_code : (new : End) → StopAndDiscardStep (server_with (stop fresh 7)) 0 8 (Ok tt) new → (l : RecvLane) → recv_lane new 0 ≡ Some l → l.stop_code ≡ Some 8 → ⊥
  -- so that it waits to be read
  pub waits : (new : End) → StopAndDiscardStep (server_with fresh) 0 7 (Ok tt) new → (l : RecvLane) → recv_lane new 0 ≡ Some l → l.reader_done ≡ false → ⊥
  -- it hasn't ended before its end came
  pub too_early : recv_ended (stop_and_discard fresh 7) ≡ true → ⊥
  -- it has with its end, or with a reset
  pub by_end : recv_ended (take_stream (stop_and_discard fresh 7) 0 abc true) ≡ true
  pub by_reset : recv_ended (take_reset (stop_and_discard fresh 7) 0 8) ≡ true
  -- or at once, where all came before
  pub at_once : recv_ended (stop_and_discard all_came 7) ≡ true
  -- one that was stopped alone hasn't
  pub stopped_alone : recv_ended (take_reset (stop fresh 7) 0 8) ≡ true → ⊥

-- a server that grants one stream of each type at first and four in all, as the first unidirectional one ended
abbrev pub one_ending : End
one_ending = told_reset 2 (server (record standard { grant_bidi = 1; lifetime_bidi = 4; grant_uni = 1; lifetime_uni = 4 }))

-- and as that call ends
abbrev pub one_ended : End
one_ended = settle one_ending

-- a server that grants four unidirectional streams at first and so many in all, by halves of the first grant, of which none ended yet
abbrev pub by_halves : ℕ → End
by_halves all = record (server (record standard { grant_uni = 4; lifetime_uni = all })) { tuning = record default_tuning { count_step = Some Half } }

-- a half of which six of ten bytes of window were read
abbrev pub six_read : RecvLane
six_read = record fresh { arrived = record fresh.arrived { read_count = 6; widest = 10 }; limit = 10; window = 10 }

-- the same once two were read, where its limit moves by such a share
abbrev pub two_read : Share → RecvLane
two_read share = record six_read { arrived = record six_read.arrived { read_count = 2 }; share = share }

-- a server of a window of ten bytes, of which two were read, that moves limits by such a share
abbrev pub tuned : Share → End
tuned share = record (server_with (two_read share)) { granted = 10; settings = record standard { conn_window = 10 }; present = first_present (record standard { conn_window = 10 }); tuning = record default_tuning { credit_step = share } }

-- a server of a window of ten bytes, of which six were read
abbrev pub much_read : End
much_read = record (server_with six_read) { granted = 10; settings = record standard { conn_window = 10 }; present = first_present (record standard { conn_window = 10 }) }

-- As a call ends (sections 4.1, 4.2 and 4.6)
pub record LimitsSettle : Type 0 where
  -- a count of streams grows by one for each that ended, and no more
  pub by_one : one_ended.granted_uni ≡ 2
  -- and of that direction alone
  pub of_direction : one_ended.granted_bidi ≡ 1
  -- by a half of a grant of four it doesn't grow before two ended
  pub whole_step : (settle (told_reset 2 (by_halves 8))).granted_uni ≡ 4
  -- it grows by these two then
  pub by_two : (settle (told_reset 6 (told_reset 2 (by_halves 8)))).granted_uni ≡ 6
  -- and no further than in the lifetime
  pub to_lifetime : (settle (told_reset 6 (told_reset 2 (by_halves 5)))).granted_uni ≡ 5
  -- a step is one stream at least, where a share of the grant is none
  pub one_at_least : (settle (record one_ending { tuning = record default_tuning { count_step = Some Half } })).granted_uni ≡ 2
  -- the limit of a stream is raised by what was read of it
  pub stream : (settle (server_with six_read)).recvs.client_bidi ≡ record six_read { limit = 16 } ∷ []
  -- and not once its final size is known
  pub ended : (settle (server_with (record six_read { final_size = Some 8 }))).recvs.client_bidi ≡ record six_read { final_size = Some 8 } ∷ []
  -- the connection's limit by what was read in all
  pub connection : (settle much_read).granted ≡ 16
  -- and no limit before its share of the window was read
  pub early : ((settle (tuned Half)).recvs.client_bidi ≡ two_read Half ∷ []) × ((settle (tuned Half)).granted ≡ 10)
  -- a smaller share comes earlier
  pub quarter : ((settle (tuned Quarter)).recvs.client_bidi ≡ record (two_read Quarter) { limit = 12 } ∷ []) × ((settle (tuned Quarter)).granted ≡ 12)
  -- a stream begins with the share of its end
  pub opened : (opens 0 (record (server standard) { tuning = record default_tuning { credit_step = Eighth } })).recvs.client_bidi ≡ new_recv_lane 1024 Eighth ∷ []

-- As limits of the peer rise (section 7.4.1)
pub record LimitsOnlyRise : Type 0 where
  -- lower ones change nothing
  pub lower : limits_raised (record (limits_of standard) { max_data = 1; bidi_remote = 1; streams_bidi = 1 }) (client_with wrote) ≡ client_with wrote
  -- a stream that is open may send below the greater one of its type
  pub open_too : (limits_raised (record (limits_of standard) { bidi_remote = 2000 }) (client_with wrote)).sends.client_bidi ≡ record wrote { limit = 2000 } ∷ []
  -- and below that of no other type
  pub of_type : (limits_raised (record (limits_of standard) { bidi_local = 2000; uni = 2000 }) (client_with wrote)).sends.client_bidi ≡ wrote ∷ []
  -- none rises once the end closed
  pub closed : (new : End) → RaiseStep (over (client_of standard)) (limits_of standard) (Ok tt) new → ⊥
  -- nor where more streams are allowed than have a number (section 4.6)
  pub uncountable : (new : End) → RaiseStep (client_of standard) (record (limits_of standard) { streams_uni = 2 ^ 60 + 1 }) (Ok tt) new → ⊥

-- As the owner sets windows and grants anew (sections 4.1 and 4.6)
pub record SetsNoMore : Type 0 where
  -- a greater window moves the limit at once, be it by less than a step
  pub at_once : (settle (with_setting (ConnWindow 11) (tuned Half))).granted ≡ 13
  -- a smaller one takes nothing back
  pub narrower : (settle (with_setting (ConnWindow 4) (tuned Half))).granted ≡ 10
  -- and moves nothing by what is less than a step
  pub no_step : (settle (with_setting (ConnWindow 9) (tuned Half))).granted ≡ 10
  -- and it is the one that counts from then on
  pub counts_then : (settle (with_setting (ConnWindow 4) much_read)).granted ≡ 10
  -- the widest one that was set is remembered
  pub widest : (with_setting (ConnWindow 4) (tuned Half)).present.widest ≡ 10
  -- a greater grant moves the count at once, beside what ended, and that of its direction alone
  pub more : (settle (with_setting (Grant Uni 2) one_ended)).granted_uni ≡ 3
  pub of_direction : (settle (with_setting (Grant Uni 2) one_ended)).granted_bidi ≡ 1
  -- to the lifetime's count at most
  pub to_lifetime : (settle (with_setting (Grant Uni 9) one_ended)).granted_uni ≡ 4
  -- a smaller one takes nothing back
  pub fewer : (settle (with_setting (Grant Uni 0) one_ended)).granted_uni ≡ 2
  -- and then a stream that ends makes no room for another
  pub no_more : (settle (told_reset 6 (with_setting (Grant Uni 0) one_ended))).granted_uni ≡ 2
  -- nothing is set once the end closed
  pub closed : (new : End) → SetStep (over (server standard)) (ConnWindow 11) (Ok tt) new → ⊥
  -- no window of no byte, none wider than the widest, and no such grant
  pub no_window : (new : End) → SetStep (server standard) (ConnWindow 0) (Ok tt) new → ⊥
  pub too_wide : (new : End) → SetStep (server standard) (ConnWindow (2 ^ 40 + 1)) (Ok tt) new → ⊥
  pub too_many : (new : End) → SetStep (server standard) (Grant Uni (2 ^ 17 + 1)) (Ok tt) new → ⊥

-- the limit of stream 0
abbrev pub limit_at_first : End → Option ℕ
limit_at_first e = option_map (λ l. l.limit) (recv_lane e 0)

-- As the owner sets the window of a stream anew (sections 4.1 and 4.2)
pub record SetsNoMoreOfIt : Type 0 where
  -- a greater one moves the limit at once, be it by less than a step
  pub at_once : limit_at_first (settle (with_setting (StreamWindow 0 11) (tuned Half))) ≡ Some 13
  -- a smaller one takes nothing back
  pub narrower : limit_at_first (settle (with_setting (StreamWindow 0 4) (tuned Half))) ≡ Some 10
  -- and moves nothing by what is less than a step
  pub no_step : limit_at_first (settle (with_setting (StreamWindow 0 9) (tuned Half))) ≡ Some 10
  -- and it is the one that counts from then on
  pub counts_then : limit_at_first (settle (with_setting (StreamWindow 0 4) (server_with six_read))) ≡ Some 10
  -- the limit stays once the final size is known
  pub ended : limit_at_first (settle (with_setting (StreamWindow 0 20) (server_with (record six_read { final_size = Some 8 })))) ≡ Some 10
  -- the widest one that was set is remembered
  pub widest : option_map (λ l. l.arrived.widest) (recv_lane (with_setting (StreamWindow 0 4) (tuned Half)) 0) ≡ Some 10
  -- a stream that opens later begins with the one that the peer was told at first
  pub later : recv_lane (opens 4 (with_setting (StreamWindow 0 11) (tuned Half))) 4 ≡ Some (new_recv_lane 1024 Half)
  -- of a stream that isn't open none is set
  pub unopened : (new : End) → SetStep (server standard) (StreamWindow 0 11) (Ok tt) new → ⊥
  -- nor of one that this end alone sends on
  pub not_its : (new : End) → SetStep (record (server standard) { sends = record { client_bidi = []; server_bidi = []; client_uni = []; server_uni = begun ∷ [] } }) (StreamWindow 3 11) (Err setting.NoSuchStream) new → ⊥
  -- nor once the end closed
  pub closed : (new : End) → SetStep (over (tuned Half)) (StreamWindow 0 11) (Ok tt) new → ⊥
  -- none of no byte is, and none wider than the widest
  pub no_window : (new : End) → SetStep (tuned Half) (StreamWindow 0 0) (Ok tt) new → ⊥
  pub too_wide : (new : End) → SetStep (tuned Half) (StreamWindow 0 (2 ^ 30 + 1)) (Ok tt) new → ⊥

pub record NotOwned : Type 0 where
  pub opening : NoSuchOpening
  pub accepting : NoSuchAccepting
  pub accepting_of : NoSuchAcceptingOf
  pub sending : NoSuchSending
  pub within_credit : NoSuchWriting
  pub within_window : NoSuchKeeping
  pub reading : NoSuchReading
  pub forgetting : NoSuchForgetting
  pub settling : LimitsSettle
  pub rising : LimitsOnlyRise
  pub setting : SetsNoMore
  pub setting_its : SetsNoMoreOfIt
