-- Of private contracts.
-- A packet that carried one piece keeps it in the value itself, and another one keeps what is left in a vector.
use Rattle.std.specs.Prelude.{List, [], ◌∷◌}
use Rattle.qs_send.specs.declared.piece.Piece.{Piece}
use Rattle.qs_send.specs.declared.carried.Pieces.{Pieces}
use Rattle.qs_send.specs.declared.carried.Pieces.TheVariants.{Empty, One, Several}

-- the pieces that are left
abbrev pub pieces_in : Pieces → List Piece
pieces_in Empty = []
pieces_in (One piece) = piece ∷ []
pieces_in (Several pieces) = pieces
