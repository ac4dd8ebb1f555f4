-- Of laws.
-- How a payload isn't taken, and which answers aren't given (RFC 9000, sections 3.5, 4, 10.2, 12.3, 13 and 20.1).
use Rattle.std.specs.Prelude.{◌≡◌, ℕ, zero, suc, ◌+◌, true, false, List, [], ◌∷◌, None, Some, Ok, Err}
use Rattle.std.specs.FinSet as set
use Rattle.qs_ranges.specs.Numbers.{NumberSet}
use Rattle.qs_wire.specs.Layout.{PlacedValue, stream}
use Rattle.qs_wire.specs.declared.fault.WireFault.{WireFault}
use Rattle.qs_recv.specs.Lane.{taken, stop, take_reset}
use Rattle.qs_recv.specs.declared.half.RecvState.TheVariants.{DataRecvd}
use Rattle.qs_send.specs.declared.parts.SendState.TheVariants.{Ready}
use Rattle.qs_send.specs.declared.piece.Piece.TheVariants.{Data}
use Rattle.qs_calls.specs.declared.closing.Closing.{Closing}
use Rattle.qs_calls.specs.declared.closing.Closed.TheVariants.{ByUs, ByPeer}
use Rattle.qs_calls.specs.declared.closing.Received.TheVariants.{Done, Duplicate, BelowFloor, PeerClosed, NoMemory}
use Rattle.qs_machine.specs.Ends.{End, closes}
use Rattle.qs_machine.specs.Seen.{Ack, Stream, Close, Plain, any_asks}
use Rattle.qs_machine.specs.Verdicts.{verdict}
use Rattle.qs_machine.specs.FrameStep.{frame_taken, acks, acked_at, frames_taken, NoFault}
use Rattle.qs_machine.specs.Recording.{recorded}
use Rattle.qs_machine.specs.Receiving.{AtEnd, RunsOut, Stops, GoesOn, ReceiveStep}
use Rattle.qs_machine.specs.Reports.{lane_report}
use Rattle.qs_machine.specs.Examples.{standard, server, letters, told_end}
use Rattle.qs_machine.specs.SmallEnds.{server_with, client_with, carrying, chunk, sent, three_came, all_came, four_made, fresh}

-- Each closing has its number (section 20.1)
pub record CodesAreThese : Type 0 where
  -- FLOW_CONTROL_ERROR: a byte past the stream's limit
  pub flow_control : verdict (server (record standard { bidi_remote = 10 })) (Stream 0 0 (letters 11) false) ≡ Some 0x03
  -- STREAM_LIMIT_ERROR: a stream past the count
  pub stream_limit : verdict (server (record standard { grant_bidi = 1 })) (Stream 4 0 (letters 1) false) ≡ Some 0x04
  -- STREAM_STATE_ERROR: a stream of this end's that it didn't open
  pub stream_state : verdict (server standard) (Stream 1 0 (letters 1) false) ≡ Some 0x05
  -- FINAL_SIZE_ERROR: a byte past the final size
  pub final_size : verdict told_end (Stream 0 5 (letters 1) false) ≡ Some 0x06
  -- PROTOCOL_VIOLATION: an ACK of the next number, which wasn't used (section 13.1)
  pub unused : verdict four_made (Ack 4 ((4, 4) ∷ [])) ≡ Some 0x0a

-- a frame on stream 0 with 11 bytes from the begin on, at a place
abbrev pub eleven : PlacedValue
eleven = record { place = 5; frame = stream 0 0 false (letters 11); frame_type = 0x0a }

-- a server whose stream window is 10
abbrev pub ten : End
ten = server (record standard { bidi_remote = 10 })

abbrev pub closing : ℕ → ℕ → Closing
closing code place = record { code = code; frame_type = 0x0a; place = place }

-- A frame doesn't end the processing so, and the processing doesn't go on (sections 10.2, 11.1 and 12.4)
pub record NoSuchStop : Type 0 where
  -- past a frame that has a fault
  pub past_fault : GoesOn ten (Stream 0 0 (letters 11) false) → ⊥
  -- past a CONNECTION_CLOSE
  pub past_close : GoesOn ten (Close 0) → ⊥
  -- as a closing, where the frame has no fault
  pub no_fault : (new : End) → Stops eleven (Plain true) ten (Err (closing 0x0a 5)) new → ⊥
  -- with another code than the fault's
  pub other_code : (new : End) → Stops eleven (Stream 0 0 (letters 11) false) ten (Err (closing 0x06 5)) new → ⊥
  -- with another place than the frame's
  pub other_place : (new : End) → Stops eleven (Stream 0 0 (letters 11) false) ten (Err (closing 0x03 0)) new → ⊥
  -- with an end that isn't closed
  pub still_open : Stops eleven (Stream 0 0 (letters 11) false) ten (Err (closing 0x03 5)) ten → ⊥
  -- as want of memory, where the frame has a fault
  pub no_memory : (new : End) → Stops eleven (Stream 0 0 (letters 11) false) ten (Ok NoMemory) new → ⊥
  -- as processed, at a frame
  pub done : (new : End) → Stops eleven (Plain true) ten (Ok Done) new → ⊥
  -- as processed, at a CONNECTION_CLOSE
  pub close_done : (new : End) → Stops eleven (Close 7) ten (Ok Done) new → ⊥
  -- with another code than the CONNECTION_CLOSE's
  pub close_code : (new : End) → Stops eleven (Close 7) ten (Ok (PeerClosed 8)) new → ⊥

-- a client that sent one byte range in packet 0
abbrev pub flying : End
flying = carrying (Data 0 (chunk 0 3 false)) (client_with sent)

-- Where memory runs out (section 13.2.1, and ours)
pub record NothingTookEffect : Type 0 where
  -- no byte of the frame came
  pub no_byte : RunsOut ten (Stream 0 0 (letters 4) false) (frame_taken (Stream 0 0 (letters 4) false) ten) → ⊥
  -- no packet is acknowledged that the ACK doesn't name
  pub unnamed : RunsOut flying (Ack 5 ((5, 5) ∷ [])) (acks (acked_at false 0 (Data 0 (chunk 0 3 false)) ∷ []) flying) → ⊥

-- Where no frame is left (sections 11.1 and 13.1)
pub record NoSuchEnd : Type 0 where
  -- the payload isn't processed, if bytes follow that are no frame
  pub bytes_follow : (fault : WireFault) (new : End) → AtEnd 0 true (Some fault) ten (Ok Done) new → ⊥
  -- nor is there want of memory
  pub no_memory : (fault : WireFault) (new : End) → AtEnd 0 true (Some fault) ten (Ok NoMemory) new → ⊥
  -- it doesn't close, if none follow
  pub all_read : (code : ℕ) (new : End) → AtEnd 0 true None ten (Err (closing code 0)) new → ⊥
  -- its number is kept once it is processed
  pub kept : (new : End) → AtEnd 0 true None ten (Ok Done) new → set.contains new.done 0 ≡ false → ⊥
  -- and isn't kept where there was no memory
  pub unkept : (new : End) → AtEnd 0 true None ten (Ok NoMemory) new → set.contains new.done 0 ≡ true → ⊥

-- `receive` doesn't answer so (sections 10.2, 12.3 and 13.2.3)
pub record NoSuchReceipt : Type 0 where
  -- after a closing, as processed
  pub closed : (payload : List ℕ) (new : End) → ReceiveStep (closes (ByUs (closing 0x03 5)) ten) 0 payload (Ok Done) new → ⊥
  -- nor with another closing
  pub other_closing : (payload : List ℕ) (new : End) → ReceiveStep (closes (ByUs (closing 0x03 5)) ten) 0 payload (Err (closing 0x06 5)) new → ⊥
  -- after the peer's closing, with another code
  pub other_peer : (payload : List ℕ) (new : End) → ReceiveStep (closes (ByPeer 7) ten) 0 payload (Ok (PeerClosed 8)) new → ⊥
  -- below the floor, as processed
  pub below : (payload : List ℕ) (new : End) → ReceiveStep (record ten { floor = 5 }) 4 payload (Ok Done) new → ⊥
  -- at the floor, as below it
  pub at_floor : (payload : List ℕ) (new : End) → ReceiveStep (record ten { floor = 5 }) 5 payload (Ok BelowFloor) new → ⊥
  -- twice, as processed
  pub twice : (payload : List ℕ) (new : End) → ReceiveStep (record ten { done = set.insert set.empty 4 }) 4 payload (Ok Done) new → ⊥
  -- once, as a duplicate
  pub once : (payload : List ℕ) (new : End) → ReceiveStep ten 4 payload (Ok Duplicate) new → ⊥

-- An ACK asks for no ACK, and neither does PADDING (section 13.2.1)
pub record AcksAskNothing : Type 0 where
  pub alone : (recorded 0 (any_asks (Ack 3 ((0, 3) ∷ []) ∷ [])) ten).ack_due ≡ false
  pub padded : (recorded 0 (any_asks (Ack 3 ((0, 3) ∷ []) ∷ Plain false ∷ [])) ten).ack_due ≡ false
  -- though any other frame beside it does
  pub beside : (recorded 0 (any_asks (Ack 3 ((0, 3) ∷ []) ∷ Plain true ∷ [])) ten).ack_due ≡ true

-- the first so many even numbers
abbrev pub evens : ℕ → NumberSet
evens zero = set.empty
evens (suc n) = set.insert (evens n) (n + n)

-- Of the numbers 0, 2, .. (sections 13.2.3 and 13.2.4)
pub record RunsAreFew : Type 0 where
  -- 32 are kept
  pub thirty_two : set.contains (recorded 62 true (record ten { done = evens 31 })).done 0 ≡ true
  -- of 33 the lowest leaves
  pub thirty_three : set.contains (recorded 64 true (record ten { done = evens 32 })).done 0 ≡ false
  -- and no other one
  pub second : set.contains (recorded 64 true (record ten { done = evens 32 })).done 2 ≡ true
  -- and those up to it aren't told apart any more
  pub floor : (recorded 64 true (record ten { done = evens 32 })).floor ≡ 1

-- What an abort doesn't do (sections 3.2, 3.5 and 4.2)
pub record AbortsCount : Type 0 where
  -- a stop pays back the credit of all that came
  pub stop_pays : taken (stop three_came 7) ≡ 3
  -- the first stop's code counts
  pub first_stop : (stop (stop three_came 7) 8).stop_code ≡ Some 7
  -- once all data came, a reset changes nothing
  pub reset_after_all : take_reset all_came 7 3 ≡ all_came

-- of a server that was told the end of stream 0 after 5 bytes the highest offset is reported, which isn't its limit (section 3.2)
abbrev pub ReportIsOfHighest : Type 0
ReportIsOfHighest =
    lane_report told_end 0
    ≡ Some (record {
      send = Some (record { state = Ready; written = 0; final_size = None; reset_code = None; limit = 1024 });
      recv = Some (record { state = DataRecvd; read_count = 0; highest = 5; limit = 1024; final_size = Some 5; reset_code = None; stop_code = None });
    })

-- an end that knows of a reset of stream 0 and of no final size, as no sound end does, with a connection limit of 5
abbrev pub unsound : End
unsound = record (server_with (record fresh { reset_code = Some 7 })) { granted = 5 }

-- At such an end a frame may have no fault, and have one when it comes again: that repeats have none needs a sound end (section 4.1).
pub record RepeatsNeedSoundness : Type 0 where
  pub once : NoFault unsound (Stream 0 0 (letters 5) false ∷ Stream 4 0 (letters 5) false ∷ [])
  pub again : verdict (frames_taken (Stream 0 0 (letters 5) false ∷ Stream 4 0 (letters 5) false ∷ []) unsound) (Stream 0 0 (letters 5) false) ≡ Some 0x03

pub record NotReceived : Type 0 where
  pub codes : CodesAreThese
  pub stops : NoSuchStop
  pub out_of_memory : NothingTookEffect
  pub ends : NoSuchEnd
  pub receipts : NoSuchReceipt
  pub asks : AcksAskNothing
  pub runs : RunsAreFew
  pub aborts : AbortsCount
  pub report : ReportIsOfHighest
  pub repeats : RepeatsNeedSoundness
