-- Of laws.
-- What goes out wasn't acknowledged. The whole file is ours.
use Rattle.std.specs.Prelude.{ℕ, ◌⊎◌}
use Rattle.qs_send.specs.declared.piece.Piece.{Piece}
use Rattle.qs_calls.specs.declared.settings.Settings.{Settings}
use Rattle.qs_calls.specs.declared.event.Side.{Side}
use Rattle.qs_runs.specs.Logs.{Happening, History}
use Rattle.qs_runs.specs.Worlds.{World, end_of, WorldStep, Run}
use Rattle.qs_progress.specs.Laps.{IsCalm}
use Rattle.qs_progress.specs.Outstanding.{IsIn, IsWhollyAcked}

-- in every run, where nothing is lost, asked for or closed: what is outstanding was so, or it went out and wasn't acknowledged before
abbrev pub WhatGoesOutIsNew : Type 0
WhatGoesOutIsNew =
    (a b : Settings) (h : History) (v w : World) (x : Happening) → Run a b h v → WorldStep h v x w → IsCalm x.call → (s : Side) (k : ℕ) (p : Piece) →
    IsIn (end_of w s).outstanding k p → IsIn (end_of v s).outstanding k p ⊎ (IsWhollyAcked (end_of v s) p → ⊥)
