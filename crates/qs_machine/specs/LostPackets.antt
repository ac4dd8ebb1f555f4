-- Trusted.
-- What is kept of the packets that were declared lost: a late ACK may still name them (RFC 9000, section 13.3, for the whole file).
--     LostPackets        the pieces of the packets by number, and the order of their declaring
--     lost_with k p l    packet k is lost with one piece more
--     lost_less k l      the lost packet k lost its first piece
use Rattle.std.specs.Prelude.{ℕ, List, [], if◌then◌else◌}
use Rattle.std.specs.FinMap as fmap
use Rattle.qs_send.specs.declared.piece.Piece.{Piece}
use Rattle.qs_send.specs.Records.{PacketPieces, without_first}
use Rattle.qs_send.specs.LostRecords.{with_piece, with_number, without_number, without_oldest, latest}

-- the pieces of the packets, and their numbers, the one first that was declared lost first
pub record LostPackets : Type 0 where
  pub pieces : PacketPieces
  pub order : List ℕ

abbrev pub no_lost : LostPackets
no_lost = record { pieces = fmap.empty; order = [] }

-- Packet k has one piece more, behind those that it has. Where that makes one packet too many, the oldest goes.
abbrev pub lost_with : ℕ → Piece → LostPackets → LostPackets
lost_with k p l =
    let order = with_number l.order k (fmap.contains_key l.pieces k) in
    record { pieces = without_oldest (with_piece l.pieces k p (fmap.get l.pieces k)) order; order = latest order }

-- The first piece of packet k leaves the record, and the record goes with the last one.
abbrev pub lost_less : ℕ → LostPackets → LostPackets
lost_less k l =
    let left = without_first l.pieces k (fmap.get l.pieces k) in
    record { pieces = left; order = if fmap.contains_key left k then l.order else without_number l.order k }
