-- Of private contracts.
-- What the private layers of `receive_with_acks` tell.
use Rattle.std.specs.Prelude.{ℕ, not, List, [], reverse}
use Rattle.std.specs.List.{filter, FoldsTo}
use Rattle.std.specs.FinMap as fmap
use Rattle.qs_wire.specs.Acks.{FallBelow}
use Rattle.qs_send.specs.AckPass.{Passing, PAST_NUMBERS, Falls}
use Rattle.qs_machine.specs.Ends.{End, Records}
use Rattle.qs_machine.specs.FrameStep.{acked_numbers}
use Rattle.qs_machine.specs.Outgoing.{Outgoing}
use Rattle.qs_machine.specs.Seen.{Seen, Ack, Stream, Control, Close, Plain}
use Rattle.qs_conn.specs.Runs.{AreSameBelow, is_ahead}

-- those of some numbers that records don't hold
abbrev pub gone_from : Records → List ℕ → List ℕ
gone_from m ns = filter (λ n. not (fmap.contains_key m n)) ns

-- the packets that a pass has ahead, from the highest number down
abbrev pub ahead_numbers : Records → Passing → List ℕ
ahead_numbers m p = reverse (filter (is_ahead p) (fmap.keys m))

-- Of the packets that a pass has ahead those are told that aren't outstanding any more. The records m are those before other packets were.
unfoldable pub TellsAhead : {S : Type 0} → (S → ℕ → S → Type 0) → Passing → Outgoing → Outgoing → S → S → Type 0
TellsAhead tells p o new s t = (m : Records) → Falls p → AreSameBelow p.below m o.outstanding → FoldsTo tells s (gone_from new.outstanding (ahead_numbers m p)) t

-- Of the packets that these ranges name those are told that aren't outstanding any more, where the ranges fall.
unfoldable pub TellsNamed : {S : Type 0} → (S → ℕ → S → Type 0) → List (ℕ × ℕ) → Outgoing → Outgoing → S → S → Type 0
TellsNamed tells ranges o new s t = FallBelow PAST_NUMBERS ranges → FoldsTo tells s (gone_from new.outstanding (acked_numbers o.outstanding ranges)) t

-- what one frame tells
abbrev pub told_of : Seen → End → End → List ℕ
told_of (Ack largest ranges) old new = gone_from new.outstanding (acked_numbers old.outstanding ranges)
told_of (Stream n offset bytes fin) old new = []
told_of (Control item) old new = []
told_of (Close code) old new = []
told_of (Plain asks) old new = []
