-- Of laws.
-- What isn't due, and may not go out (RFC 9000, sections 3, 4 and 13.3): each is excluded by one clause of a definition.
use Rattle.std.specs.Prelude.{true, false, [], None, Some, Ok}
use Rattle.std.specs.FinMap as fmap
use Rattle.std.specs.FinSet as set
use Rattle.qs_wire.specs.declared.stream_id.Dir.TheVariants.{Bidi, Uni}
use Rattle.qs_recv.specs.Lane.{stop}
use Rattle.qs_send.specs.Lane.{SendLane}
use Rattle.qs_send.specs.declared.piece.Item.TheVariants.{MaxData, MaxStreamData, MaxStreams, ResetStream, StopSending, DataBlocked, StreamDataBlocked, StreamsBlocked}
use Rattle.qs_send.specs.declared.piece.Piece.TheVariants.{Data, Told}
use Rattle.qs_machine.specs.Ends.{End}
use Rattle.qs_machine.specs.FrameStep.{item_acked}
use Rattle.qs_machine.specs.Due.{IsDue, IsEndDue, IsCurrent, IsDueItem}
use Rattle.qs_machine.specs.Making.{MakeStep}
use Rattle.qs_machine.specs.Examples.{standard, server, client_of}
use Rattle.qs_machine.specs.SmallEnds.{client_with, server_with, carrying, chunk, wrote, sent, second_acked, finished, reset_half, fresh, all_came, raised_half, raised}

-- An offset isn't due (section 13.3)
pub record NoOffsetIsDue : Type 0 where
  -- after a reset
  pub after_reset : IsDue (client_with reset_half) 0 reset_half 0 → ⊥
  -- where nothing was written
  pub unwritten : IsDue (client_with wrote) 0 wrote 3 → ⊥
  -- once it is acknowledged
  pub acked : IsDue (client_with second_acked) 0 second_acked 1 → ⊥
  -- while it is in flight
  pub in_flight : IsDue (carrying (Data 0 (chunk 0 3 false)) (client_with sent)) 0 sent 1 → ⊥
  -- though the offset past what is in flight is
  pub past_flight : IsDue (carrying (Data 0 (chunk 0 2 false)) (client_with sent)) 0 sent 2
  -- and so is the one before it
  pub before_flight : IsDue (carrying (Data 0 (chunk 1 2 false)) (client_with sent)) 0 sent 0

-- The end of a stream isn't due (section 13.3)
pub record NoEndIsDue : Type 0 where
  -- after a reset
  pub after_reset : IsEndDue (client_with (record finished { was_reset = Some (record { code = 7; size = 0 }) })) 0 (record finished { was_reset = Some (record { code = 7; size = 0 }) }) → ⊥
  -- where it wasn't asked for
  pub unasked : IsEndDue (client_with wrote) 0 wrote → ⊥
  -- once it is acknowledged
  pub acked : IsEndDue (client_with (record finished { fin_acked = true })) 0 (record finished { fin_acked = true }) → ⊥
  -- while it is in flight
  pub in_flight : IsEndDue (carrying (Data 0 (chunk 0 0 true)) (client_with finished)) 0 finished → ⊥

-- There is no reason to tell a limit (sections 4.1, 4.6 and 13.3)
pub record NoLimitIsTold : Type 0 where
  -- but the present one of the connection
  pub other_data : IsCurrent raised (MaxData 6000) → ⊥
  -- nor the one that it began with
  pub first_data : IsCurrent (server standard) (MaxData 4096) → ⊥
  -- but the present one of the stream
  pub other_stream_data : IsCurrent (server_with raised_half) (MaxStreamData 0 3000) → ⊥
  -- nor the one that it began with
  pub first_stream_data : IsCurrent (server_with fresh) (MaxStreamData 0 1024) → ⊥
  -- nor once the final size is known
  pub ended_stream_data : IsCurrent (server_with (record raised_half { final_size = Some 5 })) (MaxStreamData 0 2000) → ⊥
  -- but the present count of streams
  pub other_streams : IsCurrent (record (server standard) { granted_uni = 9 }) (MaxStreams Uni 10) → ⊥
  -- nor the one that it began with
  pub first_streams : IsCurrent (server standard) (MaxStreams Uni 8) → ⊥

-- Of a reset, and of a stop (section 3.5), nothing is told
pub record NoAbortIsTold : Type 0 where
  -- where none was made
  pub no_reset : IsCurrent (client_with wrote) (ResetStream 0 7 0) → ⊥
  -- with another final size
  pub other_size : IsCurrent (client_with reset_half) (ResetStream 0 7 3) → ⊥
  -- with another code
  pub other_code : IsCurrent (client_with reset_half) (ResetStream 0 8 0) → ⊥
  -- where the reader didn't stop
  pub no_stop : IsCurrent (server_with fresh) (StopSending 0 7) → ⊥
  -- with another code
  pub other_stop : IsCurrent (server_with (stop fresh 7)) (StopSending 0 8) → ⊥
  -- once the peer's reset came
  pub stop_after_reset : IsCurrent (server_with (record (stop fresh 7) { final_size = Some 0; reset_code = Some 5 })) (StopSending 0 7) → ⊥
  -- once all data came
  pub stop_after_all : IsCurrent (server_with (stop all_came 7)) (StopSending 0 7) → ⊥

-- a client whose half has three bytes, of which two were sent, and which knows a connection limit of 2
abbrev pub held_back : SendLane → End
held_back l = record (client_with l) { known_data = 2 }

abbrev pub two_of_three : SendLane
two_of_three = record wrote { sent_end = 2 }

-- Nothing is blocked (section 4.1)
pub record NothingIsBlocked : Type 0 where
  -- at another limit than the known one
  pub other_data : IsCurrent (record (held_back two_of_three) { known_data = 5 }) (DataBlocked 2) → ⊥
  -- while there is credit left
  pub credit_left : IsCurrent (record (held_back two_of_three) { known_data = 5 }) (DataBlocked 5) → ⊥
  -- where all that was written was sent
  pub all_sent : IsCurrent (held_back (record two_of_three { written = 2 })) (DataBlocked 2) → ⊥
  -- where the stream's own limit holds its bytes back
  pub own_limit : IsCurrent (held_back (record two_of_three { limit = 2 })) (DataBlocked 2) → ⊥
  -- after a reset
  pub after_reset : IsCurrent (held_back (record two_of_three { kept = []; was_reset = Some (record { code = 7; size = 2 }) })) (DataBlocked 2) → ⊥
  -- on a stream: at another limit
  pub other_stream : IsCurrent (client_with (record two_of_three { limit = 2 })) (StreamDataBlocked 0 3) → ⊥
  -- where all that was written lies below the limit
  pub stream_all_below : IsCurrent (client_with (record two_of_three { limit = 2; written = 2 })) (StreamDataBlocked 0 2) → ⊥
  -- while bytes below the limit weren't sent
  pub stream_unsent : IsCurrent (client_with (record two_of_three { limit = 2; sent_end = 1 })) (StreamDataBlocked 0 2) → ⊥
  -- after a reset
  pub stream_after_reset : IsCurrent (client_with (record two_of_three { kept = []; limit = 2; was_reset = Some (record { code = 7; size = 2 }) })) (StreamDataBlocked 0 2) → ⊥
  -- of streams: where none was wanted (section 4.6)
  pub none_wanted : IsCurrent (client_of standard) (StreamsBlocked Bidi 8) → ⊥
  -- once the peer allows more
  pub more_allowed : IsCurrent (record (client_of standard) { wanted_bidi = Some 8; known_bidi = 9 }) (StreamsBlocked Bidi 8) → ⊥

-- An item that a packet told isn't due (section 13.3)
pub record ToldIsNotDue : Type 0 where
  -- while it is in flight
  pub in_flight : IsDueItem (carrying (Told (MaxData 5000)) raised) (MaxData 5000) → ⊥
  -- once it is acknowledged
  pub acked : IsDueItem (item_acked (MaxData 5000) raised) (MaxData 5000) → ⊥
  -- also where an older limit is acknowledged later
  pub older_later : IsDueItem (item_acked (MaxData 4500) (item_acked (MaxData 5000) raised)) (MaxData 5000) → ⊥
  -- but the present limit is, where an older one was acknowledged
  pub newer : IsDueItem (item_acked (MaxData 4500) raised) (MaxData 5000)
  -- or is in flight
  pub newer_in_flight : IsDueItem (carrying (Told (MaxData 4500)) raised) (MaxData 5000)
  -- and so of a stream's
  pub newer_of_stream : IsDueItem (item_acked (MaxStreamData 0 1500) (server_with raised_half)) (MaxStreamData 0 2000)
  -- and of a count of streams
  pub newer_count : IsDueItem (item_acked (MaxStreams Uni 9) (record (server standard) { granted_uni = 10 })) (MaxStreams Uni 10)
  -- an acknowledged STOP_SENDING isn't told again
  pub acked_stop : IsDueItem (item_acked (StopSending 0 7) (server_with (stop fresh 7))) (StopSending 0 7) → ⊥
  -- nor an acknowledged RESET_STREAM
  pub acked_reset : IsDueItem (client_with (record reset_half { reset_acked = true })) (ResetStream 0 7 0) → ⊥

-- `make_packet` answers None only where nothing may go: not where there is
pub record NoneIsNoAnswer : Type 0 where
  -- an ACK due (section 13.2)
  pub ack : MakeStep (record (client_of standard) { ack_due = true }) 0 0 1200 (Ok None) [] (record (client_of standard) { ack_due = true }) → ⊥
  -- a control item due (section 13.3)
  pub item : MakeStep raised 0 0 1200 (Ok None) [] raised → ⊥
  -- a byte that wasn't sent, within both limits (section 4.1)
  pub new_byte : MakeStep (client_with wrote) 0 0 1200 (Ok None) [] (client_with wrote) → ⊥
  -- a byte that was lost, though the connection's credit is used up (sections 4.1 and 13.3)
  pub lost_byte : MakeStep (held_back (record two_of_three { written = 2 })) 0 0 1200 (Ok None) [] (held_back (record two_of_three { written = 2 })) → ⊥
  -- the end of a stream without bytes (section 2.2)
  pub end : MakeStep (client_with finished) 0 0 1200 (Ok None) [] (client_with finished) → ⊥

pub record NotDue : Type 0 where
  pub offsets : NoOffsetIsDue
  pub ends : NoEndIsDue
  pub limits : NoLimitIsTold
  pub aborts : NoAbortIsTold
  pub blocked : NothingIsBlocked
  pub told : ToldIsNotDue
  pub none : NoneIsNoAnswer
