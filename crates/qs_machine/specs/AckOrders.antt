-- Of laws.
-- An ACK and a STOP_SENDING don't change places, so a payload's ACK is told first only where no frame of streams stands before it (RFC 9000,
-- sections 3.1, 3.5 and 13.3).
use Rattle.std.specs.Prelude.{◌≡◌, Bool, true, false, [], ◌∷◌, None, Some, is_some}
use Rattle.std.specs.FinMap as fmap
use Rattle.qs_send.specs.Lane.{SendLane, sent_lane}
use Rattle.qs_send.specs.declared.piece.Item.TheVariants.{StopSending}
use Rattle.qs_send.specs.declared.piece.Piece.TheVariants.{Data}
use Rattle.qs_machine.specs.Ends.{End, send_lane}
use Rattle.qs_machine.specs.Seen.{Seen, Ack, Control}
use Rattle.qs_machine.specs.FrameStep.{frames_taken}
use Rattle.qs_machine.specs.SmallEnds.{client_with, chunk, finished}

-- the half whose end, with no byte before it, was sent
abbrev pub end_sent : SendLane
end_sent = sent_lane finished (chunk 0 0 true)

-- a client whose packet 0 carried that
abbrev pub end_flying : End
end_flying = record (client_with end_sent) { next = 1; outstanding = fmap.from_sorted ((0, Data 0 (chunk 0 0 true) ∷ []) ∷ []) }

-- whether the sending half of stream 0 was reset
abbrev pub is_reset : End → Bool
is_reset e = elim (send_lane e 0) [ None ↦ false | Some l ↦ is_some l.was_reset ]

-- the ACK of packet 0, and a STOP_SENDING of stream 0
abbrev pub ack_of_end : Seen
ack_of_end = Ack 0 ((0, 0) ∷ [])

abbrev pub stop : Seen
stop = Control (StopSending 0 7)

-- A STOP_SENDING that comes before the ACK of all that a half sent resets it, and one that comes behind doesn't (RFC 9000, section 3.5).
pub record AStopIsntMoved : Type 0 where
  pub ack_first : is_reset (frames_taken (ack_of_end ∷ stop ∷ []) end_flying) ≡ false
  pub stop_first : is_reset (frames_taken (stop ∷ ack_of_end ∷ []) end_flying) ≡ true
