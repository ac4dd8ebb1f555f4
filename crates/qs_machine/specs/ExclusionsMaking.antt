-- Of laws.
-- What no packet holds, which packets aren't made, and what a loss doesn't leave (RFC 9000, sections 2.2, 4, 12.3, 13.2 and 13.3).
use Rattle.std.specs.Prelude.{◌≡◌, ℕ, ◌+◌, true, false, List, [], ◌∷◌, None, Some, Ok, Err}
use Rattle.std.specs.FinMap as fmap
use Rattle.std.specs.FinSet as set
use Rattle.qs_ranges.specs.Numbers.{MAX_VARINT}
use Rattle.qs_wire.specs.Layout.{ping, ack}
use Rattle.qs_send.specs.Records.{IsCarried}
use Rattle.qs_send.specs.declared.piece.Item.TheVariants.{MaxData, DataBlocked}
use Rattle.qs_send.specs.declared.piece.Piece.TheVariants.{Data, Told}
use Rattle.qs_calls.specs.declared.closing.Closed.TheVariants.{ByPeer}
use Rattle.qs_calls.specs.declared.making.Made.{Made}
use Rattle.qs_calls.specs.declared.making.MakeFault.TheVariants as making
use Rattle.qs_calls.specs.declared.making.LostFault.TheVariants as losing
use Rattle.qs_machine.specs.Ends.{End}
use Rattle.qs_machine.specs.Credit.{all_sent}
use Rattle.qs_machine.specs.Seen.{Ack, Stream, Control, Close, Plain}
use Rattle.qs_machine.specs.Lawful.{MayPut, Lawful, HasAll, AreInTurn, frame_put}
use Rattle.qs_machine.specs.Making.{IsText, IsMade, MakeStep, IsAckMade, MakeAckStep, ClaimStep, LoseStep}
use Rattle.qs_machine.specs.Verdicts.{verdict, PROTOCOL_VIOLATION}
use Rattle.qs_machine.specs.Examples.{standard, server}
use Rattle.qs_machine.specs.SmallEnds.{client_with, carrying, chunk, abc, begun, wrote, sent, second_acked, raised, owing, four_made, only}
use Rattle.qs_machine.specs.ExclusionsDue.{held_back}

-- a client that wrote three bytes
abbrev pub writer : End
writer = client_with wrote

-- A STREAM frame may not go (sections 2.2, 4.1 and 13.3)
pub record NoSuchStreamFrame : Type 0 where
  -- of a stream that isn't open
  pub unopened : MayPut writer writer (Stream 4 0 abc false) → ⊥
  -- with neither a byte nor the end
  pub nothing : MayPut (client_with sent) (client_with sent) (Stream 0 3 [] false) → ⊥
  -- with an offset that isn't due
  pub undue : MayPut (client_with second_acked) (client_with second_acked) (Stream 0 0 abc false) → ⊥
  -- before a lower offset that is due
  pub not_lowest : MayPut writer writer (Stream 0 1 (98 ∷ 99 ∷ []) false) → ⊥
  -- behind a frame of the same packet that ends where it begins
  pub in_two : MayPut writer (frame_put (Stream 0 0 (97 ∷ []) false) writer) (Stream 0 1 (98 ∷ 99 ∷ []) false) → ⊥
  -- with other bytes than were written
  pub other_bytes : MayPut writer writer (Stream 0 0 (97 ∷ 98 ∷ 100 ∷ []) false) → ⊥
  -- past the stream's limit
  pub past_limit : MayPut (client_with (record wrote { limit = 2 })) (client_with (record wrote { limit = 2 })) (Stream 0 0 abc false) → ⊥
  -- with FIN where the end wasn't asked for
  pub unasked_end : MayPut writer writer (Stream 0 0 abc true) → ⊥
  -- with FIN before the last byte that was written
  pub early_end : MayPut (client_with (record wrote { finished = true })) (client_with (record wrote { finished = true })) (Stream 0 0 (97 ∷ []) true) → ⊥

-- a client that owes an ACK of three runs: 1, 3 and 5
abbrev pub owing_three : End
owing_three = record owing { done = set.insert owing.done 5 }

-- An ACK may not go (sections 13.2 and 19.3)
pub record NoSuchAck : Type 0 where
  -- where none is due
  pub undue : MayPut (record owing { ack_due = false }) (record owing { ack_due = false }) (Ack 3 ((3, 3) ∷ [])) → ⊥
  -- with a number that isn't kept
  pub unkept : MayPut owing owing (Ack 3 ((3, 3) ∷ (0, 1) ∷ [])) → ⊥
  -- without its own largest number
  pub without_largest : MayPut owing owing (Ack 3 ((1, 1) ∷ [])) → ⊥
  -- without the largest number that is kept
  pub largest_left_out : MayPut owing owing (Ack 1 ((1, 1) ∷ [])) → ⊥
  -- without a kept number that is higher than one that it names
  pub higher_left_out : MayPut owing_three owing_three (Ack 5 ((5, 5) ∷ (1, 1) ∷ [])) → ⊥
  -- twice in a packet
  pub twice : MayPut owing (frame_put (Ack 3 ((3, 3) ∷ (1, 1) ∷ [])) owing) (Ack 3 ((3, 3) ∷ (1, 1) ∷ [])) → ⊥

-- Of the other frames (sections 12.4 and 13.3) there goes
pub record NoSuchFrame : Type 0 where
  -- no control item that isn't due
  pub undue : MayPut (server standard) (server standard) (Control (MaxData 4096)) → ⊥
  -- none twice in a packet
  pub twice : MayPut raised (frame_put (Control (MaxData 5000)) raised) (Control (MaxData 5000)) → ⊥
  -- none that fell due as the packet was filled
  pub since : MayPut (held_back wrote) (frame_put (Stream 0 0 (97 ∷ 98 ∷ []) false) (held_back wrote)) (Control (DataBlocked 2)) → ⊥
  -- no CONNECTION_CLOSE
  pub close : MayPut writer writer (Close 0) → ⊥
  -- and nothing that tells nothing to the streams
  pub plain : MayPut writer writer (Plain true) → ⊥

-- A packet isn't lawful (sections 4.1, 12.3 and 12.4)
pub record NoSuchPacket : Type 0 where
  -- without a frame
  pub empty : (left : End) → Lawful writer [] left → ⊥
  -- past the peer's connection limit
  pub past_limit : (left : End) → Lawful (held_back wrote) (Stream 0 0 abc false ∷ []) left → ⊥
  -- where its number may be used again
  pub same_number : (left : End) → Lawful writer (Stream 0 0 abc false ∷ []) left → left.next ≡ 0 → ⊥
  -- where it forgets what it carried
  pub forgotten : (left : End) → Lawful writer (Stream 0 0 abc false ∷ []) left → (IsCarried left.outstanding (Data 0 (chunk 0 3 false)) → ⊥) → ⊥
  -- where the ACK that it held is due still
  pub ack_still_due : (left : End) → Lawful owing (Ack 3 ((3, 3) ∷ (1, 1) ∷ []) ∷ []) left → left.ack_due ≡ true → ⊥

-- a client to which three bytes were written, and which raised its connection limit to 5000
abbrev pub two_due : End
two_due = record writer { granted = 5000 }

-- A packet of three bytes in a room of 28 leaves nothing out that may go (section 13.2.1, and ours): neither
pub record NothingIsLeftOut : Type 0 where
  -- bytes
  pub bytes : HasAll 28 3 two_due (Control (MaxData 5000) ∷ []) (frame_put (Control (MaxData 5000)) two_due) → ⊥
  -- nor a control item
  pub item : (left : End) → HasAll 28 3 two_due (Stream 0 0 abc false ∷ []) left → ⊥
  -- nor the ACK
  pub no_ack : (left : End) → HasAll 28 3 owing (Stream 0 0 abc false ∷ []) left → ⊥
  -- nor a number of the ACK
  pub number : (left : End) → HasAll 28 3 owing (Ack 3 ((3, 3) ∷ []) ∷ Stream 0 0 abc false ∷ []) left → ⊥
  -- and no ACK is due after it
  pub ack_after : HasAll 28 3 (client_with begun) [] (record (client_with begun) { ack_due = true }) → ⊥

-- a client that wrote three bytes to streams 0 and 4
abbrev pub two_writers : End
two_writers = record writer { sends = record (only wrote) { client_bidi = wrote ∷ record wrote { id = 4 } ∷ [] } }

-- Bytes don't go out of turn (ours, for section 2.3): there goes no STREAM frame
pub record NothingIsOutOfTurn : Type 0 where
  -- of a higher stream before a lower one, where turns begin at the lower
  pub higher_first : AreInTurn 0 two_writers (Stream 4 0 abc false ∷ []) → ⊥
  -- of a lower stream first, where turns begin at the higher
  pub first_ignored : AreInTurn 4 two_writers (Stream 0 0 abc false ∷ []) → ⊥

-- A text isn't that of frames (sections 12.4 and 19.3)
pub record NoSuchText : Type 0 where
  -- where it spells others
  pub others : IsText 0 (ping ∷ []) (2 ∷ []) → ⊥
  -- with a delay in an ACK
  pub delayed : (text : List ℕ) → IsText 0 (ack 3 5 [] None ∷ []) text → ⊥
  -- with counts of marks in an ACK
  pub counted : (text : List ℕ) → IsText 0 (ack 3 0 [] (Some (record { ect0 = 1; ect1 = 0; ce = 0 })) ∷ []) text → ⊥

-- `make_packet` doesn't answer so (sections 10.2 and 12.3)
pub record NoSuchAnswer : Type 0 where
  -- with another number than the next
  pub number : (text : List ℕ) (new : End) → MakeStep writer 0 0 1200 (Ok (Some (record { number = 1; len = 8; is_ack_eliciting = true }))) text new → ⊥
  -- with another length than the text's
  pub len : (new : End) → MakeStep writer 0 0 1200 (Ok (Some (record { number = 0; len = 2; is_ack_eliciting = true }))) (1 ∷ []) new → ⊥
  -- as asking for no ACK, where it can't be an ACK alone
  pub asks_not : (text : List ℕ) (new : End) → MakeStep writer 0 0 1200 (Ok (Some (record { number = 0; len = 8; is_ack_eliciting = false }))) text new → ⊥
  -- with a text that doesn't fit
  pub no_room : (made : Made) (new : End) → MakeStep writer 0 0 0 (Ok (Some made)) (1 ∷ []) new → ⊥
  -- with an ACK of the largest number alone, in a room for more
  pub largest_alone : (made : Made) (text : List ℕ) (new : End) (is : IsMade owing 0 0 29 made text new) → is.frames ≡ ack 3 0 (0 ∷ []) None ∷ [] → ⊥
  -- with a packet once the end closed
  pub closed : (made : Made) (text : List ℕ) (new : End) → MakeStep (record writer { closed = Some (ByPeer 0) }) 0 0 1200 (Ok (Some made)) text new → ⊥
  -- nor once the last number was used
  pub exhausted : (made : Made) (text : List ℕ) (new : End) → MakeStep (record writer { next = MAX_VARINT + 1 }) 0 0 1200 (Ok (Some made)) text new → ⊥
  -- with the last number unused
  pub last_number : (new : End) → MakeStep (record writer { next = MAX_VARINT }) 0 0 1200 (Err making.Exhausted) [] new → ⊥
  -- as closed while it is open
  pub not_closed : (new : End) → MakeStep writer 0 0 1200 (Err making.Closed) [] new → ⊥
  -- with a number used up though nothing was made
  pub nothing_used : MakeStep (client_with begun) 0 0 1200 (Ok None) [] (record (client_with begun) { next = 1 }) → ⊥
  -- nor where there was no memory
  pub memory_used : MakeStep writer 0 0 1200 (Err making.NoMemory) [] (record writer { next = 1 }) → ⊥
  -- and not for want of memory where nothing is due
  pub nothing_due : (text : List ℕ) (new : End) → MakeStep (server standard) 0 0 1200 (Err making.NoMemory) text new → ⊥

-- `make_ack` doesn't answer so (sections 10.2, 12.3 and 13.2)
pub record NoSuchAckAlone : Type 0 where
  -- with a packet where no ACK is due
  pub undue : (made : Made) (text : List ℕ) (new : End) → MakeAckStep writer 0 1200 (Ok (Some made)) text new → ⊥
  -- with none where one is
  pub left_out : (text : List ℕ) (new : End) → MakeAckStep owing 0 1200 (Ok None) text new → ⊥
  -- as asking for an ACK
  pub asks : (text : List ℕ) (new : End) → MakeAckStep owing 0 1200 (Ok (Some (record { number = 0; len = 7; is_ack_eliciting = true }))) text new → ⊥
  -- with another number than the next
  pub number : (text : List ℕ) (new : End) → MakeAckStep owing 0 1200 (Ok (Some (record { number = 1; len = 7; is_ack_eliciting = false }))) text new → ⊥
  -- with bytes that count as sent
  pub bytes : (made : Made) (text : List ℕ) (new : End) → MakeAckStep owing 0 1200 (Ok (Some made)) text new → all_sent new ≡ 3 → ⊥
  -- with something that is outstanding under its number
  pub recorded : (made : Made) (text : List ℕ) (new : End) → MakeAckStep owing 0 1200 (Ok (Some made)) text new → IsCarried new.outstanding (Data 0 (chunk 0 3 false)) → ⊥
  -- where the ACK that it holds is due still
  pub still_due : (made : Made) (text : List ℕ) (new : End) → MakeAckStep owing 0 1200 (Ok (Some made)) text new → new.ack_due ≡ true → ⊥
  -- where its number may be used again
  pub same_number : (made : Made) (text : List ℕ) (new : End) → MakeAckStep owing 0 1200 (Ok (Some made)) text new → new.next ≡ 0 → ⊥
  -- with an ACK of the largest number alone, in a room for more
  pub largest_alone : (made : Made) (text : List ℕ) (new : End) (is : IsAckMade owing 0 29 made text new) → is.frame ≡ ack 3 0 (0 ∷ []) None → ⊥
  -- with a packet once the end closed
  pub closed : (made : Made) (text : List ℕ) (new : End) → MakeAckStep (record owing { closed = Some (ByPeer 0) }) 0 1200 (Ok (Some made)) text new → ⊥
  -- nor once the last number was used
  pub exhausted : (made : Made) (text : List ℕ) (new : End) → MakeAckStep (record owing { next = MAX_VARINT + 1 }) 0 1200 (Ok (Some made)) text new → ⊥
  -- with a number used up though nothing was made
  pub nothing_used : MakeAckStep writer 0 1200 (Ok None) [] (record writer { next = 1 }) → ⊥
  -- and never for want of memory
  pub memory : (text : List ℕ) (new : End) → MakeAckStep owing 0 1200 (Err making.NoMemory) text new → ⊥

-- `claim_number` doesn't answer so (sections 12.3 and 13.1)
pub record NoSuchClaim : Type 0 where
  -- with another number than the next
  pub number : (new : End) → ClaimStep four_made (Ok 3) new → ⊥
  -- with one that may be used again
  pub again : (number : ℕ) (new : End) → ClaimStep four_made (Ok number) new → new.next ≡ 4 → ⊥
  -- with one of which an ACK closes
  pub unknown : (number : ℕ) (new : End) → ClaimStep four_made (Ok number) new → verdict new (Ack 4 ((4, 4) ∷ [])) ≡ Some PROTOCOL_VIOLATION → ⊥
  -- with one under which something is outstanding
  pub recorded : (number : ℕ) (new : End) → ClaimStep (client_with begun) (Ok number) new → IsCarried new.outstanding (Told (MaxData 5000)) → ⊥
  -- with one past the last
  pub exhausted : (number : ℕ) (new : End) → ClaimStep (record four_made { next = MAX_VARINT + 1 }) (Ok number) new → ⊥
  -- with the last number unused
  pub last_number : (new : End) → ClaimStep (record four_made { next = MAX_VARINT }) (Err making.Exhausted) new → ⊥
  -- as closed, since a closing goes in a packet
  pub closed : (new : End) → ClaimStep (record four_made { closed = Some (ByPeer 0) }) (Err making.Closed) new → ⊥
  -- nor for want of memory
  pub memory : (new : End) → ClaimStep four_made (Err making.NoMemory) new → ⊥

-- a client that sent three bytes in packet 0
abbrev pub one_flying : End
one_flying = carrying (Data 0 (chunk 0 3 false)) (client_with sent)

-- a client that told a limit in packet 0, and sent three bytes in it
abbrev pub two_flying : End
two_flying = record (client_with sent) { next = 1; outstanding = fmap.insert fmap.empty 0 (Told (MaxData 5000) ∷ Data 0 (chunk 0 3 false) ∷ []) }

-- A loss isn't answered so (section 13.3)
pub record NoSuchLoss : Type 0 where
  -- as done, of a packet that isn't outstanding
  pub unknown : (new : End) → LoseStep writer 0 (Ok tt) new → ⊥
  -- as done, once the end closed
  pub closed : (new : End) → LoseStep (record two_flying { closed = Some (ByPeer 0) }) 0 (Ok tt) new → ⊥
  -- as of a packet that isn't outstanding, though it is
  pub known : (new : End) → LoseStep two_flying 0 (Err losing.NotOutstanding) new → ⊥
  -- as done, where a piece stays in flight
  pub in_part : (new : End) → LoseStep two_flying 0 (Ok tt) new → IsCarried new.outstanding (Data 0 (chunk 0 3 false)) → ⊥
  -- as done, where a late ACK finds no piece (section 13.3)
  pub not_kept : (new : End) → LoseStep one_flying 0 (Ok tt) new → fmap.get new.lost.pieces 0 ≡ None → ⊥
  -- for want of memory, where all is lost
  pub whole : (new : End) → LoseStep two_flying 0 (Err losing.NoMemory) new → fmap.get new.outstanding 0 ≡ None → ⊥

pub record NotMade : Type 0 where
  pub stream : NoSuchStreamFrame
  pub acks : NoSuchAck
  pub others : NoSuchFrame
  pub packets : NoSuchPacket
  pub left_out : NothingIsLeftOut
  pub turns : NothingIsOutOfTurn
  pub texts : NoSuchText
  pub answers : NoSuchAnswer
  pub alone : NoSuchAckAlone
  pub claims : NoSuchClaim
  pub losses : NoSuchLoss
