-- Of laws.
-- How a frame isn't taken alone, and what isn't told by tokens (RFC 9000, sections 10.2, 11.1, 13.1, 13.3 and 20.1).
use Rattle.std.specs.Prelude.{◌≡◌, ℕ, ◌+◌, ◌^◌, false, [], ◌∷◌, None, Some, Result, Ok, Err}
use Rattle.std.specs.FinMap as fmap
use Rattle.qs_wire.specs.Layout.{FrameValue, stream, max_data, ack, ping, connection_close}
use Rattle.qs_send.specs.Records.{IsCarried}
use Rattle.qs_send.specs.declared.piece.Piece.TheVariants.{Data}
use Rattle.qs_calls.specs.declared.closing.Closing.{Closing}
use Rattle.qs_calls.specs.declared.closing.Closed.TheVariants.{ByUs, ByPeer}
use Rattle.qs_calls.specs.declared.token.Token.{Token}
use Rattle.qs_calls.specs.declared.token.Taken.{Taken}
use Rattle.qs_calls.specs.declared.token.Taken.TheVariants.{Took, Unchanged, NotOurs}
use Rattle.qs_calls.specs.declared.token.TakeFault.{TakeFault}
use Rattle.qs_calls.specs.declared.token.TakeFault.TheVariants as faults
use Rattle.qs_calls.specs.declared.token.TokenFault.TheVariants as tokens
use Rattle.qs_machine.specs.Ends.{End, closes}
use Rattle.qs_machine.specs.Alone.{TakesOne, TakesEach, TakeFrameStep, TakeFramesStep, TokenAckedStep, TokenLostStep, LosesEach}
use Rattle.qs_machine.specs.Examples.{letters}
use Rattle.qs_machine.specs.SmallEnds.{chunk, four_made}
use Rattle.qs_machine.specs.ExclusionsReceiving.{ten}
use Rattle.qs_machine.specs.ExclusionsMaking.{two_flying}

-- of stream 0 four bytes, eleven, and one that lies past the largest offset that has a text
abbrev pub four_bytes : FrameValue
four_bytes = stream 0 0 false (letters 4)

abbrev pub eleven_bytes : FrameValue
eleven_bytes = stream 0 0 false (letters 11)

abbrev pub past_all : FrameValue
past_all = max_data (2 ^ 62)

-- of a frame that came alone
abbrev pub lone : ℕ → ℕ → ℕ → Closing
lone code frame_type place = record { code = code; frame_type = frame_type; place = place }

-- One frame isn't taken so (sections 11.1, 13.1 and 20.1)
pub record NoSuchTake : Type 0 where
  -- as taken, where it has a fault
  pub past_fault : (new : End) → TakesOne ten eleven_bytes (Ok Took) new → ⊥
  -- nor where no text has its value
  pub no_text : (new : End) → TakesOne ten past_all (Ok Took) new → ⊥
  -- and then with another code than FRAME_ENCODING_ERROR
  pub not_encoding : (new : End) → TakesOne ten past_all (Err (faults.Closing (lone 0x0a 0x10 0))) new → ⊥
  -- as of another kind
  pub not_ours : (new : End) → TakesOne ten four_bytes (Ok NotOurs) new → ⊥
  -- as taken, without its effect
  pub no_effect : (taken : End) → TakesOne ten (max_data 5000) (Ok Took) taken → taken.known_data ≡ ten.known_data → ⊥
  -- as one that changed nothing, where it raises a limit
  pub raised : (new : End) → TakesOne ten (max_data 5000) (Ok Unchanged) new → ⊥
  -- nor as one that changed something, where it raises none
  pub not_raised : (new : End) → TakesOne ten (max_data 4000) (Ok Took) new → ⊥
  -- as a closing, where it has no fault
  pub no_fault : (new : End) → TakesOne ten (max_data 5000) (Err (faults.Closing (lone 0x03 0x10 0))) new → ⊥
  -- with another code than the fault's
  pub other_code : (new : End) → TakesOne ten eleven_bytes (Err (faults.Closing (lone 0x06 0x0a 0))) new → ⊥
  -- with another type than that of the canonical text, which has a length
  pub other_type : (new : End) → TakesOne ten eleven_bytes (Err (faults.Closing (lone 0x03 0x08 0))) new → ⊥
  -- with another place than 0
  pub other_place : (new : End) → TakesOne ten eleven_bytes (Err (faults.Closing (lone 0x03 0x0a 5))) new → ⊥
  -- with an end that isn't closed
  pub still_open : TakesOne ten eleven_bytes (Err (faults.Closing (lone 0x03 0x0a 0))) ten → ⊥
  -- as want of memory, where it has a fault
  pub faulty_memory : (new : End) → TakesOne ten eleven_bytes (Err faults.NoMemory) new → ⊥
  -- nor where it asks for none
  pub none_asked : (new : End) → TakesOne ten (max_data 5000) (Err faults.NoMemory) new → ⊥
  -- and then with a change
  pub changed : (new : End) → TakesOne ten four_bytes (Err faults.NoMemory) new → new.known_data ≡ ten.known_data + 1 → ⊥
  -- as closed by the peer, at an end that is open
  pub peer_open : (new : End) → TakesOne ten four_bytes (Err (faults.PeerClosed 7)) new → ⊥

-- `take_frame` doesn't answer so (sections 10.2 and 13.1)
pub record NoSuchFrameAnswer : Type 0 where
  -- after a closing, as taken
  pub closed : (new : End) → TakeFrameStep (closes (ByUs (lone 0x03 0x0a 0)) ten) four_bytes (Ok Took) new → ⊥
  -- nor with another closing
  pub other_closing : (new : End) → TakeFrameStep (closes (ByUs (lone 0x03 0x0a 0)) ten) four_bytes (Err (faults.Closing (lone 0x06 0x0a 0))) new → ⊥
  -- after the peer's closing, with another code
  pub other_peer : (new : End) → TakeFrameStep (closes (ByPeer 7) ten) four_bytes (Err (faults.PeerClosed 8)) new → ⊥
  -- an ACK as taken, be it of a packet that was made
  pub ack_taken : (new : End) → TakeFrameStep four_made (ack 0 0 (0 ∷ []) None) (Ok Took) new → ⊥
  -- and one of a number that wasn't used as a fault
  pub ack_closes : (closing : Closing) (new : End) → TakeFrameStep four_made (ack 4 0 (0 ∷ []) None) (Err (faults.Closing closing)) new → ⊥
  -- a CONNECTION_CLOSE closes the end
  pub close_closes : (answer : Result Taken TakeFault) (new : End) → TakeFrameStep ten (connection_close 7 0 []) answer new → new.closed ≡ Some (ByPeer 7) → ⊥

-- `take_frames` doesn't answer so (section 12.4)
pub record NoSuchFramesAnswer : Type 0 where
  -- past a fault
  pub past_fault : (new : End) → TakesEach (past_all ∷ max_data 5000 ∷ []) ten (Ok Took) new → ⊥
  -- with the frame that had a fault left out
  pub left_out : (new : End) → TakesEach (max_data 5000 ∷ past_all ∷ []) ten (Ok Took) new → ⊥
  -- without the effect of the frame before the fault
  pub before_fault : (fault : TakeFault) (new : End) → TakesEach (max_data 5000 ∷ past_all ∷ []) ten (Err fault) new → new.known_data ≡ ten.known_data → ⊥
  -- as of other kinds, where one took effect
  pub one_ours : (new : End) → TakesEach (max_data 5000 ∷ ping ∷ []) ten (Ok NotOurs) new → ⊥
  -- as if nothing changed, where the first frame changed something, or the last one
  pub first_changed : (new : End) → TakesEach (max_data 5000 ∷ max_data 4000 ∷ []) ten (Ok Unchanged) new → ⊥
  pub last_changed : (new : End) → TakesEach (max_data 4000 ∷ max_data 5000 ∷ []) ten (Ok Unchanged) new → ⊥
  -- as if something did, where none changed anything
  pub none_changed : (new : End) → TakesEach (max_data 4000 ∷ ping ∷ []) ten (Ok Took) new → ⊥
  -- as of other kinds, where one of these kinds changed nothing
  pub unchanged_is_ours : (new : End) → TakesEach (max_data 4000 ∷ ping ∷ []) ten (Ok NotOurs) new → ⊥
  -- as taken, where none is of these kinds
  pub none_ours : (new : End) → TakesEach (ping ∷ []) ten (Ok Took) new → ⊥
  -- after a closing, as taken
  pub closed : (new : End) → TakeFramesStep (closes (ByPeer 7) ten) (four_bytes ∷ []) (Ok Took) new → ⊥

abbrev pub token : ℕ → Token
token k = record { epoch = 0; first = k; number = k }

-- What isn't told of tokens (sections 10.2, 13.1 and 13.3)
pub record NoSuchToken : Type 0 where
  -- that the next packet was acknowledged, which wasn't made
  pub next : (new : End) → TokenAckedStep four_made (token 4) (Ok tt) new → ⊥
  -- nor that it was lost
  pub next_lost : (new : End) → TokenLostStep four_made (token 4) (Ok tt) new → ⊥
  -- that one was of another end, which had made as many
  pub foreign : (new : End) → TokenAckedStep four_made (record (token 3) { epoch = 1 }) (Ok tt) new → ⊥
  pub foreign_lost : (new : End) → TokenLostStep four_made (record (token 3) { epoch = 1 }) (Ok tt) new → ⊥
  -- with a made one also the next, which wasn't made
  pub not_all : (new : End) → TokenAckedStep four_made (record (token 3) { number = 4 }) (Ok tt) new → ⊥
  pub not_all_lost : (new : End) → TokenLostStep four_made (record (token 3) { number = 4 }) (Ok tt) new → ⊥
  -- none at all
  pub none : (new : End) → TokenAckedStep four_made (record (token 3) { number = 2 }) (Ok tt) new → ⊥
  pub none_lost : (new : End) → TokenLostStep four_made (record (token 3) { number = 2 }) (Ok tt) new → ⊥
  -- that the last one wasn't given
  pub last : (new : End) → TokenAckedStep four_made (token 3) (Err tokens.NotGiven) new → ⊥
  pub last_lost : (new : End) → TokenLostStep four_made (token 3) (Err tokens.NotGiven) new → ⊥
  -- after a closing, anything
  pub closed : (new : End) → TokenAckedStep (closes (ByPeer 7) four_made) (token 3) (Ok tt) new → ⊥
  pub closed_lost : (new : End) → TokenLostStep (closes (ByPeer 7) four_made) (token 3) (Ok tt) new → ⊥
  -- an open end is closed
  pub not_closed : (new : End) → TokenAckedStep four_made (token 3) (Err tokens.Closed) new → ⊥
  -- a packet was lost, of which a piece is outstanding
  pub in_part : (new : End) → TokenLostStep two_flying (token 0) (Ok tt) new → IsCarried new.outstanding (Data 0 (chunk 0 3 false)) → ⊥
  -- both of two were, and a piece is outstanding of the lower one
  pub in_part_of_two : (new : End) → LosesEach 2 0 two_flying (Ok tt) new → IsCarried new.outstanding (Data 0 (chunk 0 3 false)) → ⊥
  -- want of memory moved all of it
  pub whole : (new : End) → TokenLostStep two_flying (token 0) (Err tokens.NoMemory) new → fmap.get new.outstanding 0 ≡ None → ⊥

pub record NotAlone : Type 0 where
  pub take : NoSuchTake
  pub frame : NoSuchFrameAnswer
  pub frames : NoSuchFramesAnswer
  pub tokens : NoSuchToken
