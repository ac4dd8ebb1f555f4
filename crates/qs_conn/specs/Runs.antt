-- Of private contracts.
-- What the private loops over an end's packets do: pieces are due again, or acknowledged, one after the other, as far as there is memory.
use Rattle.std.specs.Prelude.{◌≡◌, ℕ, ◌<◌, Bool, ◌&&◌, ◌||◌, nat_le, nat_lt, true, false, if◌then◌else◌, List, [], ◌∷◌, ◌++◌, length, take, slice_get, reverse, flat_map, Result, Ok, Err}
use Rattle.std.specs.List.{filter}
use Rattle.std.specs.FinMap as fmap
use Rattle.qs_ranges.specs.declared.NoMemory.{NoMemory}
use Rattle.qs_send.specs.declared.piece.Piece.{Piece}
use Rattle.qs_wire.specs.Acks.{FallBelow}
use Rattle.qs_send.specs.AckPass.{Passing, PAST_NUMBERS, Falls}
use Rattle.qs_machine.specs.Ends.{Records}
use Rattle.qs_machine.specs.FrameStep.{AckedPiece, is_named, pieces_of, named_in}
use Rattle.qs_machine.specs.Memory.{StopsAt}
use Rattle.qs_machine.specs.Outgoing.{Outgoing, pieces_in, first_acked_out, first_lost_out}

-- the outstanding records, or the lost ones
abbrev pub held_out : Bool → Outgoing → Records
held_out late o = if late then o.lost.pieces else o.outstanding

-- how many pieces the record of packet k has left
unfoldable pub pieces_left : Bool → ℕ → Outgoing → ℕ
pieces_left late k o = length (pieces_in (held_out late o) k)

-- these pieces of packet k are lost, one after the other
unfoldable pub losses_out : ℕ → List Piece → Outgoing → Outgoing
losses_out k [] o = o
losses_out k (p ∷ ps) o = losses_out k ps (first_lost_out k p o)

-- all of these pieces are lost, or some first ones, where memory was refused
abbrev pub LosesBy : ℕ → List Piece → Outgoing → Result (Unit {0}) NoMemory → Outgoing → Type 0
LosesBy k ps o (Ok done) new = new ≡ losses_out k ps o
LosesBy k ps o (Err refused) new = (moved : ℕ) × (moved < length ps) × (new ≡ losses_out k (take moved ps) o)

-- the pieces of packet k are lost (RFC 9000, section 13.3)
unfoldable pub Loses : ℕ → Outgoing → Result (Unit {0}) NoMemory → Outgoing → Type 0
Loses k o result new = LosesBy k (pieces_in o.outstanding k) o result new

-- Acknowledgements

-- these pieces are acknowledged, one after the other
unfoldable pub acks_out : List AckedPiece → Outgoing → Outgoing
acks_out [] o = o
acks_out (a ∷ ps) o = acks_out ps (first_acked_out a o)

-- all of these pieces are acknowledged, or some first ones, up to one that asked for memory and was refused it
abbrev pub AcksBy : List AckedPiece → Outgoing → Result (Unit {0}) NoMemory → Outgoing → Type 0
AcksBy ps o (Ok done) new = new ≡ acks_out ps o
AcksBy ps o (Err refused) new = (m : ℕ) × (new ≡ acks_out (take m ps) o) × StopsAt new.sends new.acked (slice_get ps m)

-- the pieces of packet k are acknowledged, the outstanding ones or the lost ones
unfoldable pub AcksPacket : Bool → ℕ → Outgoing → Result (Unit {0}) NoMemory → Outgoing → Type 0
AcksPacket late k o result new = AcksBy (pieces_of late (held_out late o) k) o result new

-- the packets below a bound are the same
abbrev pub AreSameBelow : ℕ → Records → Records → Type 0
AreSameBelow bound m n = (k : ℕ) → k < bound → fmap.get m k ≡ fmap.get n k

-- the pieces that ranges name
abbrev pub named_out : Outgoing → List (ℕ × ℕ) → List AckedPiece
named_out o ranges = named_in false o.outstanding ranges ++ named_in true o.lost.pieces ranges

-- The packets that these ranges name are acknowledged, where the ranges fall: the outstanding ones or the lost ones, and both.
unfoldable pub AcksNamed : Bool → List (ℕ × ℕ) → Outgoing → Result (Unit {0}) NoMemory → Outgoing → Type 0
AcksNamed late ranges o result new = FallBelow PAST_NUMBERS ranges → AcksBy (named_in late (held_out late o) ranges) o result new

unfoldable pub AcksRanges : List (ℕ × ℕ) → Outgoing → Result (Unit {0}) NoMemory → Outgoing → Type 0
AcksRanges ranges o result new = FallBelow PAST_NUMBERS ranges → AcksBy (named_out o ranges) o result new

-- the ranges name a number that the pass has not come to
abbrev pub is_ahead : Passing → ℕ → Bool
is_ahead p k = nat_lt k p.below && (nat_le p.low k || is_named p.unread k)

-- the pieces of the packets that a pass has ahead
abbrev pub ahead_pieces : Bool → Records → Passing → List AckedPiece
ahead_pieces late m p = flat_map (pieces_of late m) (reverse (filter (is_ahead p) (fmap.keys m)))

-- The packets that a pass has ahead are acknowledged. The records m are those before other packets were.
unfoldable pub AcksAhead : Bool → Passing → Outgoing → Result (Unit {0}) NoMemory → Outgoing → Type 0
AcksAhead late p o result new = (m : Records) → Falls p → AreSameBelow p.below m (held_out late o) → AcksBy (ahead_pieces late m p) o result new

-- A pass over the numbers from one on and below another
abbrev pub from_below : ℕ → ℕ → Passing
from_below first end = record { low = first; below = end; unread = []; turns = 0 }

-- The packets that a pass has ahead are acknowledged, the outstanding ones and those that were declared lost.
unfoldable pub AcksBoth : Passing → Outgoing → Result (Unit {0}) NoMemory → Outgoing → Type 0
AcksBoth p o result new = AcksBy (ahead_pieces false o.outstanding p ++ ahead_pieces true o.lost.pieces p) o result new
