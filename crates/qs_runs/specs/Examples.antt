-- Of laws.
-- What is read off small histories.
use Rattle.std.specs.Prelude.{◌≡◌, ℕ, Bool, true, false, drop, List, [], ◌∷◌, Option, None, Some, Ok, Err}
use Rattle.qs_wire.specs.Layout.{ping, max_data}
use Rattle.qs_wire.specs.declared.stream_id.Dir.{Dir}
use Rattle.qs_recv.specs.declared.half.Read.TheVariants.{Bytes, End}
use Rattle.qs_recv.specs.declared.half.Peek.{Peek as Peeked}
use Rattle.qs_recv.specs.declared.half.Peek.TheVariants as looks
use Rattle.qs_send.specs.declared.piece.Item.TheVariants.{MaxData}
use Rattle.qs_calls.specs.declared.settings.PeerLimits.{PeerLimits}
use Rattle.qs_calls.specs.declared.closing.Received.{Received}
use Rattle.qs_calls.specs.declared.closing.Received.TheVariants.{Done, Duplicate}
use Rattle.qs_calls.specs.declared.closing.NotedClose.{NotedClose}
use Rattle.qs_calls.specs.declared.filling.Fill.{Fill}
use Rattle.qs_calls.specs.declared.filling.Filled.{Filled}
use Rattle.qs_calls.specs.declared.making.MakeFault.TheVariants.{Exhausted}
use Rattle.qs_calls.specs.declared.token.Token.{Token}
use Rattle.qs_calls.specs.declared.token.Taken.TheVariants.{Took, Unchanged, NotOurs}
use Rattle.qs_calls.specs.declared.token.TakeFault.TheVariants as faults
use Rattle.qs_calls.specs.declared.token.TokenFault.TheVariants as tokens
use Rattle.qs_calls.specs.declared.uses.UseFault.TheVariants.{NoSuchStream}
use Rattle.qs_calls.specs.declared.event.Side.{Side}
use Rattle.qs_calls.specs.declared.event.Side.TheVariants.{A, B}
use Rattle.qs_machine.specs.SmallEnds.{abc}
use Rattle.qs_machine.specs.Seen.{Control, Plain}
use Rattle.qs_machine.specs.Setting.{Setting}
use Rattle.qs_machine.specs.EndStep.{Call, Answer, AcceptOf, Write, Reset, Stop, StopAndDiscard, ReadUpTo, Consume, Peek, Receive, TakeFrame, TakeFrames, TokenAcked, TokenLost, Make, MakeAck, FillIn, Claim, RaiseLimits, Set, NoteClosed}
use Rattle.qs_calls.specs.declared.settings.Settings.{Settings}
use Rattle.qs_runs.specs.Worlds.{World, end_of, Run}
use Rattle.qs_runs.specs.Logs.{Happening, History, written, read, shown, read_whole, stopped, broken_off, made, payload, processed, taken, was_acked, was_noted_closed}

-- a call of an end, with its answer
abbrev pub at : Side → (call : Call) → Answer call → Happening
at side call answer = record { end = side; call = call; answer = answer }

-- `write` on stream 0 accepted so many of these bytes
abbrev pub wrote : Side → List ℕ → ℕ → Happening
wrote side bytes count = at side (Write 0 bytes) (Ok count)

-- `read` on stream 0 gave these bytes
abbrev pub got : Side → List ℕ → Happening
got side bytes = at side (ReadUpTo 0 10) (Ok (Bytes 3), bytes)

-- `peek` showed so of stream 0
abbrev pub looked : Side → Peeked → Happening
looked side peek = at side (Peek 0) (Ok peek)

-- or told the end
abbrev pub told_end : Side → Happening
told_end side = at side (ReadUpTo 0 10) (Ok End, [])

-- `consume` took these bytes of stream 0, and was told whether the end follows
abbrev pub took_out : Side → List ℕ → Bool → Happening
took_out side bytes at_end = at side (Consume 0 10) (Ok (record { read = Bytes 3; at_end = at_end }), bytes)

-- the stream's reader stopped
abbrev pub stop : Side → Happening
stop side = at side (Stop 0 7) (Ok tt)

-- `make_packet` made packet 0 of this text
abbrev pub packet : Side → List ℕ → Happening
packet side text = at side (Make 0 0 1200) (Ok (Some (record { number = 0; len = 8; is_ack_eliciting = true })), text)

-- the peer's packet came to an end in these bytes
abbrev pub came : Side → ℕ → List ℕ → Received → Happening
came side number bytes answer = at side (Receive number bytes) (Ok answer)

-- A writes bytes, makes packet 0 of them, which comes to B, and B reads them and then the end; the newest first
abbrev pub story : List ℕ → History
story text =
    told_end B
    ∷ got B abc
    ∷ came B 0 text Done
    ∷ packet A text
    ∷ wrote A abc 3
    ∷ []

-- What was written, read, made and processed
pub record StoryIsRead (text : List ℕ) : Type 0 where
  pub written_there : written A 0 (story text) ≡ abc
  pub not_here : written B 0 (story text) ≡ []
  pub not_on_another : written A 4 (story text) ≡ []
  pub read_here : read B 0 (story text) ≡ abc
  pub not_there : read A 0 (story text) ≡ []
  pub made_there : made A (story text) ≡ text ∷ []
  pub by_number : payload A 0 (story text) ≡ Some text
  pub no_other : payload A 1 (story text) ≡ None
  pub processed_here : processed B 0 (story text) ≡ true
  pub processed_once : processed B 1 (story text) ≡ false
  pub processed_not_there : processed A 0 (story text) ≡ false
  -- B was told the end
  pub whole : read_whole B 0 (story text) ≡ true
  pub not_whole_there : read_whole A 0 (story text) ≡ false
  pub not_another_whole : read_whole B 4 (story text) ≡ false

-- What is written and read
pub record BytesAreRead : Type 0 where
  -- of three bytes two were accepted
  pub in_part : written A 0 (wrote A abc 2 ∷ []) ≡ 97 ∷ 98 ∷ []
  -- what was written later comes behind
  pub in_order : written A 0 (wrote A abc 1 ∷ wrote A abc 3 ∷ []) ≡ 97 ∷ 98 ∷ 99 ∷ 97 ∷ []
  -- as does what was read later, with a copy or without one
  pub read_in_order : read B 0 (took_out B abc false ∷ told_end B ∷ got B abc ∷ []) ≡ 97 ∷ 98 ∷ 99 ∷ 97 ∷ 98 ∷ 99 ∷ []
  -- bytes that are taken without a copy count once, where the end follows, too, and of that stream and at that end alone
  pub once : read B 0 (took_out B abc true ∷ []) ≡ abc
  pub not_on_another : read B 4 (took_out B abc true ∷ []) ≡ []
  pub not_there : read A 0 (took_out B abc true ∷ []) ≡ []
  -- none of a call that was refused
  pub refused : read B 0 (at B (Consume 0 10) (Err NoSuchStream, abc) ∷ []) ≡ []

-- What is shown
pub record LooksAreShown (peek : Peeked) : Type 0 where
  -- of that stream and at that end alone
  pub not_on_another : shown B 4 (looked B peek ∷ []) ≡ []
  pub not_there : shown A 0 (looked B peek ∷ []) ≡ []
  -- what is read isn't shown any more
  pub less_read : shown B 0 (got B abc ∷ looked B peek ∷ []) ≡ drop 3 (shown B 0 (looked B peek ∷ []))
  -- nor is what a look before showed, where it shows no bytes
  pub nothing : shown B 0 (looked B looks.Wait ∷ looked B peek ∷ []) ≡ []
  -- a look reads nothing, and tells no end
  pub not_read : read B 0 (looked B peek ∷ []) ≡ []
  pub not_told : read_whole B 0 (looked B looks.End ∷ []) ≡ false
  -- and shows none where it was refused
  pub refused : shown B 0 (at B (Peek 0) (Err NoSuchStream) ∷ []) ≡ []

-- Who was told the end
pub record EndsAreTold : Type 0 where
  -- a reader that was told none wasn't told the whole
  pub no_end : read_whole B 0 (took_out B abc false ∷ got B abc ∷ []) ≡ false
  -- one that was told it behind what it took was, or where it had come already
  pub taken : read_whole B 0 (took_out B abc true ∷ []) ≡ true
  pub none_taken : read_whole B 0 (at B (Consume 0 10) (Ok (record { read = End; at_end = true }), []) ∷ []) ≡ true
  -- not one that had stopped before, or forgotten the stream
  pub stopped_before : read_whole B 0 (told_end B ∷ stop B ∷ []) ≡ false
  pub taken_then : read_whole B 0 (took_out B abc true ∷ stop B ∷ []) ≡ false
  pub forgotten_before : read_whole B 0 (told_end B ∷ at B (StopAndDiscard 0 7) (Ok tt) ∷ []) ≡ false
  -- one that stopped another stream was, and one that stopped afterwards
  pub other_stopped : read_whole B 0 (told_end B ∷ at B (Stop 4 7) (Ok tt) ∷ []) ≡ true
  pub stopped_after : read_whole B 0 (stop B ∷ told_end B ∷ []) ≡ true
  -- a stream that is forgotten is stopped, and none by a call that was refused
  pub forgotten : stopped B 0 (at B (StopAndDiscard 0 7) (Ok tt) ∷ []) ≡ true
  pub refused : stopped B 0 (at B (Stop 0 7) (Err NoSuchStream) ∷ []) ≡ false

-- a stream is reset
abbrev pub reset : Side → ℕ → Happening
reset side stream = at side (Reset stream 7) (Ok tt)

-- Who broke off
pub record BreaksAreTold : Type 0 where
  -- a writer that reset its stream, that one and at that end
  pub own : broken_off A 0 (reset A 0 ∷ []) ≡ true
  pub not_another : broken_off A 0 (reset A 4 ∷ []) ≡ false
  pub not_at_the_peer : broken_off B 0 (reset A 0 ∷ []) ≡ false
  -- whatever comes later, and none that was refused
  pub stays : broken_off A 0 (wrote A abc 3 ∷ reset A 0 ∷ []) ≡ true
  pub refused : broken_off A 0 (at A (Reset 0 7) (Err NoSuchStream) ∷ []) ≡ false
  -- a reader that stops breaks nothing off by that
  pub not_stopped : broken_off B 0 (stop B ∷ []) ≡ false

-- What is made and comes
pub record PacketsAreRead (text : List ℕ) : Type 0 where
  -- under a claimed number a PING goes
  pub claimed : payload A 0 (at A Claim (Ok 0) ∷ []) ≡ Some (1 ∷ [])
  -- and no packet where none was left to claim
  pub none_claimed : made A (at A Claim (Err Exhausted) ∷ []) ≡ []
  -- an ACK alone is a packet of its end, and not of the other
  pub ack : made A (at A (MakeAck 0 1200) (Ok (Some (record { number = 0; len = 8; is_ack_eliciting = false })), text) ∷ []) ≡ text ∷ []
  pub ack_not_there : made B (at A (MakeAck 0 1200) (Ok (Some (record { number = 0; len = 8; is_ack_eliciting = false })), text) ∷ []) ≡ []
  -- where none was made there is none
  pub no_ack : made A (at A (MakeAck 0 1200) (Ok None, text) ∷ []) ≡ []
  -- frames that were filled in are a packet of its end, where any went in
  pub fill : (want : Fill) (filled : Filled) → made A (at A (FillIn want 1200) (Ok (Some filled), text) ∷ []) ≡ text ∷ []
  pub no_fill : (want : Fill) → made A (at A (FillIn want 1200) (Ok None, text) ∷ []) ≡ []
  -- a packet that came twice was processed once
  pub twice : processed B 0 (came B 0 text Duplicate ∷ []) ≡ false
  -- nothing is made by one that came, nor by a token that is lost, by limits that are taken in or by what is set
  pub none_made : made B (came B 0 text Done ∷ []) ≡ []
  pub none_lost : (token : Token) → made A (at A (TokenLost token) (Ok tt) ∷ []) ≡ []
  pub none_raised : (limits : PeerLimits) → made A (at A (RaiseLimits limits) (Ok tt) ∷ []) ≡ []
  pub none_set : (setting : Setting) → made A (at A (Set setting) (Ok tt) ∷ []) ≡ []
  -- nor by a stream that is forgotten, or given out of one direction
  pub none_forgot : made A (at A (StopAndDiscard 0 7) (Ok tt) ∷ []) ≡ []
  pub none_given : (d : Dir) (result : Option ℕ) → made A (at A (AcceptOf d) result ∷ []) ≡ []

-- A is told that the packets of this token were acknowledged
abbrev pub token_acked : Token → Happening
token_acked token = at A (TokenAcked token) (Ok tt)

abbrev pub token : (first number : ℕ) → Token
token first number = record { epoch = 0; first = first; number = number }

-- Frames and tokens
pub record TokensAreRead : Type 0 where
  -- a frame that came alone was taken, be it that it changed nothing, and so was each of several
  pub one : taken B (at B (TakeFrame (max_data 5)) (Ok Took) ∷ []) ≡ Control (MaxData 5) ∷ []
  pub unchanged : taken B (at B (TakeFrame (max_data 5)) (Ok Unchanged) ∷ []) ≡ Control (MaxData 5) ∷ []
  pub several : taken B (at B (TakeFrames (max_data 5 ∷ ping ∷ max_data 6 ∷ [])) (Ok Took) ∷ []) ≡ Control (MaxData 5) ∷ Plain true ∷ Control (MaxData 6) ∷ []
  -- at that end, and not where it found no memory
  pub not_there : taken A (at B (TakeFrame (max_data 5)) (Ok Took) ∷ []) ≡ []
  pub no_memory : taken B (at B (TakeFrames (max_data 5 ∷ [])) (Err faults.NoMemory) ∷ []) ≡ []
  -- no packet was processed by it, and none was made
  pub not_processed : processed B 0 (at B (TakeFrame (max_data 5)) (Ok Took) ∷ []) ≡ false
  pub none_made : made B (at B (TakeFrame (max_data 5)) (Ok Took) ∷ []) ≡ []
  -- a token was told to be acknowledged, that one, if the end took it, and at that end
  pub acked : was_acked A 3 (token_acked (token 3 3) ∷ []) ≡ true
  pub not_another : was_acked A 4 (token_acked (token 3 3) ∷ []) ≡ false
  pub of_several : was_acked A 4 (token_acked (token 3 5) ∷ []) ≡ true
  pub not_below : was_acked A 2 (token_acked (token 3 5) ∷ []) ≡ false
  pub not_refused : was_acked A 3 (at A (TokenAcked (token 3 3)) (Err tokens.NotGiven) ∷ []) ≡ false
  pub in_part : was_acked A 3 (at A (TokenAcked (token 3 3)) (Err tokens.NoMemory) ∷ []) ≡ true
  pub not_at_the_peer : was_acked B 3 (token_acked (token 3 3) ∷ []) ≡ false
  -- which makes nothing
  pub none_made_by_it : made A (token_acked (token 3 3) ∷ []) ≡ []
  -- a close is told to one end
  pub noted_closed : (close : NotedClose) → was_noted_closed A (at A (NoteClosed close) tt ∷ []) ≡ true
  pub not_told : (close : NotedClose) → was_noted_closed B (at A (NoteClosed close) tt ∷ []) ≡ false

-- A PING that is handed in alone is answered NotOurs, and the run goes on in the same world (RFC 9000, section 19.2).
abbrev pub PingComesAlone : Type 0
PingComesAlone = (a b : Settings) (h : History) (w : World) (s : Side) → Run a b h w → (end_of w s).closed ≡ None → Run a b (at s (TakeFrame ping) (Ok NotOurs) ∷ h) w

pub record Examples : Type 0 where
  pub story : (text : List ℕ) → StoryIsRead text
  pub bytes : BytesAreRead
  pub looks : (peek : Peeked) → LooksAreShown peek
  pub ends : EndsAreTold
  pub breaks : BreaksAreTold
  pub packets : (text : List ℕ) → PacketsAreRead text
  pub tokens : TokensAreRead
  pub ping_alone : PingComesAlone
