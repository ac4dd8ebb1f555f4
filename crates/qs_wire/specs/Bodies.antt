-- Of private contracts.
-- The frame of a type, read and judged.
use Rattle.std.specs.Prelude.{◌≡◌, Bool, ℕ, ◌+◌, ◌-◌, ◌<◌, ◌^◌, List, length, Option, Some, None, Result, Ok, Err}
use Rattle.qs_wire.specs.declared.fault.FaultKind.{FaultKind}
use Rattle.qs_wire.specs.declared.frame_type.FrameType.{FrameType}
use Rattle.qs_wire.specs.Layout.{FrameValue, stream}
use Rattle.qs_wire.specs.Grammar.{Fits}
use Rattle.qs_wire.specs.Reading.{◌>>=◌, body_at, breach_of, frame_at, reading_from, with_first, placed_at}

-- a frame and what follows it, where its values break nothing
abbrev pub judged : FrameValue × List ℕ → Option FaultKind → Result (FrameValue × List ℕ) FaultKind
judged x None = Ok x
judged x (Some kind) = Err kind

-- the frame of a type, or the first fault of its fields or its values
unfoldable pub judged_body_at : FrameType → List ℕ → Result (FrameValue × List ℕ) FaultKind
judged_body_at t bytes = do
  x ← body_at t bytes
  judged x (breach_of x.0)

-- no STREAM frame begins the bytes
abbrev pub NoStreamAt : List ℕ → Type 0
NoStreamAt bytes = (type id offset : ℕ) (fin : Bool) (sent rest : List ℕ) → frame_at bytes ≡ Ok (type, stream id offset fin sent, rest) → ⊥

-- A frame of this type begins the bytes, and can be written. The frames of the bytes are this one and those after it.
pub record IsRead (bytes : List ℕ) (type : ℕ) (frame : FrameValue) (rest : List ℕ) : Type 0 where
  pub fits : Fits frame
  pub shorter : length rest < length bytes
  pub typed : type < 2 ^ 62
  pub more : (place : ℕ) → reading_from place bytes ≡ with_first (placed_at place type frame) (reading_from (place + (length bytes - length rest)) rest)
