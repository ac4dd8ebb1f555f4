-- Trusted.
-- Laws of one end: what was wanted is told until the peer knows it, what a packet holds asks for an ACK, and a stop gives back credit.
use Rattle.std.specs.Prelude.{◌≡◌, ℕ, true, ◌⊎◌, List, Some}
use Rattle.qs_recv.specs.Lane.{RecvLane, highest, taken}
use Rattle.qs_send.specs.declared.piece.Item.{Item}
use Rattle.qs_send.specs.declared.piece.Piece.TheVariants.{Told}
use Rattle.qs_machine.specs.Ends.{End, recv_lane}
use Rattle.qs_machine.specs.Due.{IsOutstanding, IsCurrent, IsAcked, IsDueItem}
use Rattle.qs_machine.specs.Seen.{Seen, Ack, asks_ack}
use Rattle.qs_machine.specs.Lawful.{MayPut}
use Rattle.qs_machine.specs.EndStep.{Call, Answer, EndStep}

-- a limit that was raised, a reset, a stop, and each other item that is to be told: its value is in an outstanding packet, or
-- acknowledged, or due (RFC 9000, section 13.3)
abbrev pub ItemsAreInOnePart : Type 0
ItemsAreInOnePart = (e : End) (i : Item) → IsCurrent e i → IsOutstanding e (Told i) ⊎ IsAcked e i ⊎ IsDueItem e i

-- whatever a packet may hold asks for an ACK, but an ACK: no packet stays outstanding because the peer owes no ACK of it (RFC 9000,
-- sections 13.2 and 13.2.1)
abbrev pub AllButAcksAsk : Type 0
AllButAcksAsk = (old e : End) (f : Seen) → MayPut old e f → ((largest : ℕ) × (ranges : List (ℕ × ℕ)) × (f ≡ Ack largest ranges)) ⊎ (asks_ack f ≡ true)

-- A half whose reader stopped keeps that whatever comes, and has taken up to its highest offset: all its credit is given back (RFC 9000,
-- section 3.5).
abbrev pub StopsGiveBack : Type 0
StopsGiveBack =
    (old : End) (call : Call) (answer : Answer call) (new : End) (n code : ℕ) (l : RecvLane) → EndStep old call answer new →
    recv_lane old n ≡ Some l → l.stop_code ≡ Some code →
    (k : RecvLane) × (recv_lane new n ≡ Some k) × (k.stop_code ≡ Some code) × (taken k ≡ highest k)
