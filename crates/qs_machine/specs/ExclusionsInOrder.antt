-- Of laws.
-- Which packets leave out what comes first (ours, for RFC 9000, section 13, leaves the order open).
use Rattle.std.specs.Prelude.{◌≡◌, ℕ, true, false, List, [], ◌∷◌, Some, Ok}
use Rattle.qs_wire.specs.declared.stream_id.Dir.TheVariants.{Bidi, Uni}
use Rattle.qs_recv.specs.Lane.{stop}
use Rattle.qs_send.specs.declared.piece.Item.TheVariants.{MaxData, MaxStreams, ResetStream, StopSending}
use Rattle.qs_send.specs.declared.piece.Piece.{Piece}
use Rattle.qs_send.specs.declared.piece.Piece.TheVariants.{Data, Told}
use Rattle.qs_calls.specs.declared.making.Made.{Made}
use Rattle.qs_machine.specs.Ends.{End}
use Rattle.qs_machine.specs.Lawful.{pieces_so_far}
use Rattle.qs_machine.specs.InOrder.{NothingStarves}
use Rattle.qs_machine.specs.Examples.{standard, server}
use Rattle.qs_machine.specs.SmallEnds.{client_with, server_with, chunk, reset_half, fresh, owing, only}
use Rattle.qs_machine.specs.ExclusionsMaking.{two_due}

-- no packet of the end holds these pieces
abbrev pub NoneHolds : End → List Piece → Type 0
NoneHolds old pieces = (made : Made) (new : End) → NothingStarves old (Ok (Some made)) new → pieces_so_far new made.number ≡ pieces → ⊥

-- the first three bytes of a stream
abbrev pub bytes : ℕ → Piece
bytes n = Data n (chunk 0 3 false)

-- a client that reset streams 0 and 4
abbrev pub two_resets : End
two_resets = record (client_with reset_half) { sends = record (only reset_half) { client_bidi = reset_half ∷ record reset_half { id = 4 } ∷ [] } }

-- a server whose reader stopped stream 0
abbrev pub stopping : End
stopping = server_with (stop fresh 7)

-- a server that grants nine streams of each direction
abbrev pub two_counts : End
two_counts = record (server standard) { granted_bidi = 9; granted_uni = 9 }

-- No packet is made
pub record NothingIsStarved : Type 0 where
  -- that leaves the ACK due
  pub ack : (made : Made) (new : End) → NothingStarves owing (Ok (Some made)) new → new.ack_due ≡ true → ⊥
  -- of bytes, where a limit is to be told
  pub limit : NoneHolds two_due (bytes 0 ∷ [])
  -- not even with the limit behind them
  pub limit_behind : NoneHolds two_due (bytes 0 ∷ Told (MaxData 5000) ∷ [])
  -- or a reset
  pub reset : NoneHolds two_resets (bytes 8 ∷ [])
  -- or that a reader stopped
  pub stop : NoneHolds stopping (bytes 0 ∷ [])
  -- of items of a later kind before an earlier one
  pub kinds : NoneHolds (record stopping { granted = 5000 }) (Told (StopSending 0 7) ∷ Told (MaxData 5000) ∷ [])
  -- of a higher stream before a lower one
  pub streams : NoneHolds two_resets (Told (ResetStream 4 7 0) ∷ Told (ResetStream 0 7 0) ∷ [])
  -- of unidirectional streams before bidirectional ones
  pub directions : NoneHolds two_counts (Told (MaxStreams Uni 9) ∷ Told (MaxStreams Bidi 9) ∷ [])
