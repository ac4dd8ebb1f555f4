-- Of laws.
-- How wide a window is less its step, what fills it, and where not all is read. The whole file is ours.
use Rattle.std.specs.Prelude.{◌≡◌, ℕ, ◌+◌, ◌≤◌, Bool, true, List, [], ◌∷◌}
use Rattle.qs_recv.specs.Lane.{step}
use Rattle.qs_recv.specs.declared.credit.Share.{Share}
use Rattle.qs_recv.specs.declared.credit.Share.TheVariants.{Half, Sixteenth}
use Rattle.qs_calls.specs.declared.event.Side.{Side}
use Rattle.qs_calls.specs.declared.event.Side.TheVariants.{A}
use Rattle.qs_machine.specs.SmallEnds.{abc, begun, sent, client_with}
use Rattle.qs_runs.specs.Examples.{wrote}
use Rattle.qs_progress.specs.Exclusions.{two}
use Rattle.qs_progress.specs.Laps.{Moment}
use Rattle.qs_progress.specs.Comes.{Course}
use Rattle.qs_progress.specs.Rounds.{Way}
use Rattle.qs_progress.specs.Windows.{Widths, WideRound, filled, IsAllRead}

-- widths of the connection, and of each stream
abbrev pub widths : ℕ → ℕ → Widths
widths conn stream = record { conn = conn; streams = λ n. stream }

-- a window less its step
abbrev pub IsAsWide : (width window : ℕ) → Share → Type 0
IsAsWide width window share = width + step share window ≤ window

pub record WindowExclusions : Type 0 where
  -- a window less its step of a half or a sixteenth is so wide, and no wider; one byte has no width
  pub half : IsAsWide 50 100 Half
  pub no_wider : IsAsWide 51 100 Half → ⊥
  pub sixteenth : IsAsWide 94 100 Sixteenth
  pub no_wider_still : IsAsWide 95 100 Sixteenth → ⊥
  pub least : (share : Share) → IsAsWide 1 1 share → ⊥
  -- three bytes of a stream that were sent fill three widths of the stream where that is none, and one of the connection that is two bytes
  pub both : filled (widths 2 0) (client_with begun) (client_with sent) ≡ 4
  -- a width is filled by a byte more, and not by as many bytes
  pub connection : filled (widths 2 3) (client_with begun) (client_with sent) ≡ 1
  pub stream : filled (widths 3 2) (client_with begun) (client_with sent) ≡ 1
  -- nothing by what was sent before
  pub before : filled (widths 0 0) (client_with sent) (client_with sent) ≡ 0
  -- not all is read where bytes that were written weren't
  pub unread : IsAllRead (record { log = wrote A abc 3 ∷ []; ends = two }) → ⊥
  -- and of a course none counts that begins where all was
  pub begun : (way : Way) (k : Side → Widths) (parts : List Bool) (old new : Moment) → IsAllRead old → Course (WideRound way k) IsAllRead (true ∷ parts) old new → ⊥
