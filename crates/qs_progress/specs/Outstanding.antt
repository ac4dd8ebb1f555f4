-- Of laws.
-- What is outstanding stays so or is acknowledged, where nothing is lost. The whole file is ours.
use Rattle.std.specs.Prelude.{◌≡◌, ℕ, ◌+◌, ◌<◌, ◌≤◌, true, List, ◌⊎◌, Some}
use Rattle.std.specs.FinMap as fmap
use Rattle.std.specs.FinSet as set
use Rattle.qs_send.specs.Lane.{SendLane}
use Rattle.qs_send.specs.Records.{Among, PacketPieces}
use Rattle.qs_send.specs.declared.piece.Item.TheVariants.{ResetStream}
use Rattle.qs_send.specs.declared.piece.Piece.{Piece}
use Rattle.qs_send.specs.declared.piece.Piece.TheVariants.{Data, Told}
use Rattle.qs_calls.specs.declared.settings.Settings.{Settings}
use Rattle.qs_calls.specs.declared.event.Side.{Side}
use Rattle.qs_machine.specs.Ends.{End, send_lane}
use Rattle.qs_runs.specs.Logs.{Happening, History}
use Rattle.qs_runs.specs.Worlds.{World, end_of, WorldStep, Run}
use Rattle.qs_progress.specs.Score.{is_done}
use Rattle.qs_progress.specs.Laps.{IsCalm}

-- the piece stands in the record of packet k
abbrev pub IsIn : PacketPieces → ℕ → Piece → Type 0
IsIn m k p = (ps : List Piece) × (fmap.get m k ≡ Some ps) × Among p ps

-- the piece is acknowledged: each of its offsets and its end, the reset of the half, or the item with its value or a greater one
abbrev pub IsWhollyAcked : End → Piece → Type 0
IsWhollyAcked e (Data n c) =
    (l : SendLane) × (send_lane e n ≡ Some l) × ((q : ℕ) → c.offset ≤ q → q < c.offset + c.len → set.contains l.acked q ≡ true) × (c.fin ≡ true → l.fin_acked ≡ true)
IsWhollyAcked e (Told (ResetStream n code size)) = (l : SendLane) × (send_lane e n ≡ Some l) × (l.reset_acked ≡ true)
IsWhollyAcked e (Told i) = is_done e.acked i ≡ true

-- in every run, where nothing is lost, asked for or closed: what a packet carries that is outstanding stays so, or is acknowledged
abbrev pub WhatIsOutStays : Type 0
WhatIsOutStays =
    (a b : Settings) (h : History) (v w : World) (x : Happening) → Run a b h v → WorldStep h v x w → IsCalm x.call → (s : Side) (k : ℕ) (p : Piece) →
    IsIn (end_of v s).outstanding k p → IsIn (end_of w s).outstanding k p ⊎ IsWhollyAcked (end_of w s) p
