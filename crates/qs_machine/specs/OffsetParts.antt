-- Of laws.
-- Where each written offset of a sending half stands (RFC 9000, section 13.3).
use Rattle.std.specs.Prelude.{◌≡◌, ℕ, ◌<◌, true, false, ◌⊎◌, None}
use Rattle.std.specs.FinSet as set
use Rattle.qs_send.specs.Lane.{SendLane}
use Rattle.qs_machine.specs.Ends.{End}
use Rattle.qs_machine.specs.Due.{IsInFlight, IsDue}

-- Of a half that wasn't reset each written offset is acknowledged; or it isn't, and an outstanding piece has it; or it is due, and then it
-- is neither.
abbrev pub OffsetsAreInOnePart : Type 0
OffsetsAreInOnePart =
    (e : End) (n : ℕ) (l : SendLane) (q : ℕ) → l.was_reset ≡ None → q < l.written →
    (set.contains l.acked q ≡ true) ⊎ ((set.contains l.acked q ≡ false) × IsInFlight e n q) ⊎ IsDue e n l q
