-- Of laws.
-- Where memory isn't asked for, so that none can be refused, and how a payload doesn't end (RFC 9000, sections 3.2, 11.1, 13.1 and 13.3;
-- ours where it speaks of want of memory).
use Rattle.std.specs.Prelude.{◌≡◌, true, false, [], ◌∷◌, None, Some, Ok, Err}
use Rattle.std.specs.FinSet as set
use Rattle.qs_wire.specs.declared.fault.WireFault.{WireFault}
use Rattle.qs_wire.specs.declared.stream_id.Dir.TheVariants.{Bidi}
use Rattle.qs_recv.specs.Lane.{stop}
use Rattle.qs_send.specs.declared.piece.Item.TheVariants.{MaxData, MaxStreamData, MaxStreams, ResetStream, StopSending, DataBlocked, StreamDataBlocked, StreamsBlocked}
use Rattle.qs_send.specs.declared.piece.Piece.{Piece}
use Rattle.qs_send.specs.declared.piece.Piece.TheVariants.{Data, Told}
use Rattle.qs_calls.specs.declared.closing.Closing.{Closing}
use Rattle.qs_calls.specs.declared.closing.Received.TheVariants.{Done, Duplicate, NoMemory}
use Rattle.qs_machine.specs.Tables.{no_streams}
use Rattle.qs_machine.specs.Acked.{AckedItems, no_items, with_item}
use Rattle.qs_machine.specs.Ends.{End}
use Rattle.qs_machine.specs.Seen.{Ack, Stream, Control, Close, Plain}
use Rattle.qs_machine.specs.FrameStep.{acked_at}
use Rattle.qs_machine.specs.Memory.{MayRunOut, StopsAt}
use Rattle.qs_machine.specs.Receiving.{AtEnd, RunsOut, closing_of}
use Rattle.qs_machine.specs.Examples.{standard, server, client_of}
use Rattle.qs_machine.specs.SmallEnds.{only, server_with, abc, chunk, second_acked, fresh, three_came}
use Rattle.qs_machine.specs.ExclusionsReceiving.{ten, flying}

-- a server whose peer opened stream 2, which the peer alone sends on
abbrev pub one_way : End
one_way = record (server standard) { recvs = record no_streams { client_uni = fresh ∷ [] } }

-- These frames need no memory
pub record NoFrameRunsOut : Type 0 where
  -- one that only the layer beneath reads, and what such a frame leaves behind
  pub plain : MayRunOut ten (Plain true) → ⊥
  pub plain_stops : RunsOut ten (Plain true) ten → ⊥
  pub close : MayRunOut ten (Close 7) → ⊥
  -- an ACK that names no packet that is kept
  pub names_none : (new : End) → RunsOut flying (Ack 5 ((5, 5) ∷ [])) new → ⊥
  -- of the connection
  pub max_data : MayRunOut ten (Control (MaxData 5)) → ⊥
  pub max_streams : MayRunOut ten (Control (MaxStreams Bidi 5)) → ⊥
  pub data_blocked : MayRunOut ten (Control (DataBlocked 5)) → ⊥
  pub streams_blocked : MayRunOut ten (Control (StreamsBlocked Bidi 5)) → ⊥
  -- on a stream of which both halves are open
  pub max_stream_data : MayRunOut (server_with fresh) (Control (MaxStreamData 0 5)) → ⊥
  pub reset : MayRunOut (server_with fresh) (Control (ResetStream 0 7 5)) → ⊥
  pub stop_sending : MayRunOut (server_with fresh) (Control (StopSending 0 7)) → ⊥
  pub stream_blocked : MayRunOut (server_with fresh) (Control (StreamDataBlocked 0 5)) → ⊥
  -- on an open stream that has but one half
  pub one_half : MayRunOut one_way (Control (StreamDataBlocked 2 5)) → ⊥
  -- on an own stream, which no frame opens
  pub own : MayRunOut (client_of standard) (Control (MaxStreamData 0 5)) → ⊥
  -- with bytes that all came
  pub repeated : MayRunOut (server_with three_came) (Stream 0 0 abc false) → ⊥
  -- after a reset
  pub after_reset : MayRunOut (server_with (record fresh { reset_code = Some 7 })) (Stream 0 0 abc false) → ⊥
  -- after a stop, with bytes beside those that came
  pub after_stop : MayRunOut (server_with (stop three_came 7)) (Stream 0 3 abc false) → ⊥

-- an ACK stops at this piece, at an end with one sending half, which knows that these items were acknowledged
abbrev pub StopsAtPiece : AckedItems → Piece → Type 0
StopsAtPiece a p = StopsAt (only second_acked) a (Some (acked_at false 0 p))

-- No memory is needed to know that these were acknowledged
pub record NoPieceRunsOut : Type 0 where
  -- nothing, past the last piece
  pub past_last : StopsAt (only second_acked) no_items None → ⊥
  -- items of the connection, and a reset
  pub max_data : StopsAtPiece no_items (Told (MaxData 5)) → ⊥
  pub max_streams : StopsAtPiece no_items (Told (MaxStreams Bidi 5)) → ⊥
  pub reset : StopsAtPiece no_items (Told (ResetStream 0 7 5)) → ⊥
  pub data_blocked : StopsAtPiece no_items (Told (DataBlocked 5)) → ⊥
  pub streams_blocked : StopsAtPiece no_items (Told (StreamsBlocked Bidi 5)) → ⊥
  -- an item of a stream of which an older one was acknowledged
  pub max_stream_data : StopsAtPiece (with_item (MaxStreamData 0 5) no_items) (Told (MaxStreamData 0 9)) → ⊥
  pub stream_blocked : StopsAtPiece (with_item (StreamDataBlocked 0 5) no_items) (Told (StreamDataBlocked 0 9)) → ⊥
  -- a stop of a stream whose neighbour's was acknowledged
  pub stop_sending : StopsAtPiece (with_item (StopSending 1 7) no_items) (Told (StopSending 0 7)) → ⊥
  -- though the first limit of a stream may need some, whatever was acknowledged of another
  pub first_limit : StopsAtPiece (with_item (MaxStreamData 4 9) no_items) (Told (MaxStreamData 0 9))
  -- the end alone, without a byte
  pub end_alone : StopsAtPiece no_items (Data 0 (chunk 7 0 true)) → ⊥
  -- bytes beside acknowledged ones
  pub beside : StopsAtPiece no_items (Data 0 (chunk 0 1 false)) → ⊥
  -- bytes of a stream that isn't open
  pub not_open : StopsAtPiece no_items (Data 4 (chunk 7 1 false)) → ⊥

-- Where no frame is left
pub record NoOtherEnd : Type 0 where
  -- memory isn't asked for beside a number that is kept
  pub above_kept : (new : End) → AtEnd 1 true None (record ten { done = set.insert set.empty 0 }) (Ok NoMemory) new → ⊥
  pub below_kept : (new : End) → AtEnd 0 true None (record ten { done = set.insert set.empty 1 }) (Ok NoMemory) new → ⊥
  -- an ACK is due, if a frame asked for it
  pub asked : (new : End) → AtEnd 0 true None ten (Ok Done) new → new.ack_due ≡ false → ⊥
  -- the number isn't taken for one that came before
  pub duplicate : (new : End) → AtEnd 0 true None ten (Ok Duplicate) new → ⊥
  -- bytes that are no frame close the end, and as their fault says
  pub other_closing : (fault : WireFault) (c : Closing) (new : End) → (c ≡ closing_of fault → ⊥) → AtEnd 0 true (Some fault) ten (Err c) new → ⊥
  pub still_open : (fault : WireFault) (c : Closing) → AtEnd 0 true (Some fault) ten (Err c) ten → ⊥

pub record NotRefused : Type 0 where
  pub frames : NoFrameRunsOut
  pub pieces : NoPieceRunsOut
  pub ends : NoOtherEnd
