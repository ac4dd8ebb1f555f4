-- Trusted.
-- Frames that tell nothing to streams (RFC 9000, sections 13.2.1, 19.1 and 19.2, for the whole file).
use Rattle.std.specs.Prelude.{◌≡◌, ℕ, Bool, true, false, not, List, None, Ok}
use Rattle.std.specs.List.{filter}
use Rattle.qs_wire.specs.Grammar.{frames_of}
use Rattle.qs_wire.specs.Reading.{reading_of}
use Rattle.qs_calls.specs.declared.closing.Received.{Received}
use Rattle.qs_machine.specs.Ends.{End}
use Rattle.qs_machine.specs.Seen.{Seen, Ack, Stream, Control, Close, Plain, seen_all}
use Rattle.qs_machine.specs.Receiving.{ReceiveStep}

-- a frame that changes nothing but whether an ACK is due: PADDING, PING, and those that an end carries for others
abbrev pub is_plain : Seen → Bool
is_plain (Ack largest ranges) = false
is_plain (Stream n offset bytes fin) = false
is_plain (Control item) = false
is_plain (Close code) = false
is_plain (Plain asks) = true

-- what an end reads in a payload
abbrev pub frames_in : List ℕ → List Seen
frames_in text = seen_all (frames_of (reading_of text).left)

-- these frames without the plain ones
abbrev pub but_plain : List Seen → List Seen
but_plain frames = filter (λ f. not (is_plain f)) frames

-- Two payloads have no fault, and are the same frames once plain ones are left out, wherever these stand.
pub record DifferInPlain (text other : List ℕ) : Type 0 where
  pub reads : (reading_of text).fault ≡ None
  pub reads_other : (reading_of other).fault ≡ None
  pub same : but_plain (frames_in text) ≡ but_plain (frames_in other)

-- Plain frames change nothing but whether an ACK is due: where a payload is received, so is each that differs in them alone, and the end
-- after it is the same but for that. (A closing tells a place, and so may differ.)
abbrev pub PlainFramesTellNothing : Type 0
PlainFramesTellNothing =
    (old new : End) (number : ℕ) (text other : List ℕ) (received : Received) → DifferInPlain text other → ReceiveStep old number text (Ok received) new →
    (bare : End) × ReceiveStep old number other (Ok received) bare × (new ≡ record bare { ack_due = new.ack_due })
