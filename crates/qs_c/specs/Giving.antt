-- Of public contracts.
-- How C hands several frames in, and what it is told. All of it is ours.
use Rattle.std.specs.Prelude.{◌≡◌, ℕ, ◌⊎◌, Bool, true, List, [], ◌∷◌, map, Result, ◌&&◌}
use Rattle.qs_wire.specs.Layout.{FrameValue}
use Rattle.qs_calls.specs.declared.token.Taken.{Taken}
use Rattle.qs_calls.specs.declared.token.TakeFault.{TakeFault}
use Rattle.qs_machine.specs.Ends.{End}
use Rattle.qs_machine.specs.Alone.{TakeFramesStep}
use Rattle.qs_c.specs.declared.giving.GvGiven.{GvGiven}
use Rattle.qs_c.specs.Statuses.{taken_told}
use Rattle.qs_c.specs.Frames.{frame_in, is_frame}

-- the frame that is given with its bytes: the token of a NEW_CONNECTION_ID isn't asked for
abbrev pub given_in : GvGiven → FrameValue
given_in g = frame_in g.frame g.bytes.now []

-- each is a frame
abbrev pub are_given : List GvGiven → Bool
are_given [] = true
are_given (g ∷ gs) = is_frame g.frame && are_given gs

-- The frames are handed in, and what came of them is told; or there is no memory to hold them, and nothing changes.
abbrev pub TakesAll : List GvGiven → End → End → ℕ → ℕ → ℕ → Type 0
TakesAll gs e f status old new =
    ((status ≡ 2) × (new ≡ old) × (f ≡ e))
    ⊎ ((a : Result Taken TakeFault) × ((status, new) ≡ taken_told a old) × TakeFramesStep e (map given_in gs) a f)
