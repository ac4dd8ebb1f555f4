-- Of laws.
-- Which calls send or tell something, and which don't. The whole file is ours.
use Rattle.std.specs.Prelude.{◌≡◌, ◌+◌, Bool, true, false, [], ◌∷◌, None}
use Rattle.std.specs.FinMap as fmap
use Rattle.qs_send.specs.declared.piece.Piece.{Piece}
use Rattle.qs_machine.specs.Ends.{End}
use Rattle.qs_machine.specs.Lawful.{noted}
use Rattle.qs_progress.specs.Laps.{Moment}
use Rattle.qs_progress.specs.Ending.{Carries, TellsNews, Does}
use Rattle.qs_progress.specs.ExclusionsLaps.{before, after}

pub record EndingExclusions : Type 0 where
  -- a read that tells the end does, and so does a packet that holds a piece
  pub tells : Does (true ∷ []) before (after ∷ [])
  pub puts : (e : End) (p : Piece) → Carries e (record (noted p e) { next = e.next + 1 })
  -- not one that tells it again, or nothing
  pub again : (e : End) → TellsNews e e → ⊥
  -- and no packet of ACKs alone, or of which the end records nothing
  pub acks : (e : End) → fmap.get e.outstanding e.next ≡ None → Carries e (record e { ack_due = false; next = e.next + 1 }) → ⊥
  -- each moment is marked, or not, and no more marks count
  pub no_more : (mark : Bool) (m : Moment) → Does (mark ∷ []) m [] → ⊥
  pub no_less : (m k : Moment) → Does [] m (k ∷ []) → ⊥
