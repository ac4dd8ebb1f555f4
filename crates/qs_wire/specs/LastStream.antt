-- Trusted.
-- The last stream of which frames carry something.
use Rattle.std.specs.Prelude.{ℕ, List, [], ◌∷◌, Option, Some}
use Rattle.qs_wire.specs.Layout.{FrameValue, stream}

-- the stream of a STREAM frame; of another frame what was before (RFC 9000, section 19.8)
abbrev pub stream_or : Option ℕ → FrameValue → Option ℕ
stream_or last (stream n offset fin bytes) = Some n
stream_or last frame = last

-- the stream of the last STREAM frame, or, where there is none, what was before (RFC 9000, section 19.8)
abbrev pub last_stream_of : Option ℕ → List FrameValue → Option ℕ
last_stream_of last [] = last
last_stream_of last (f ∷ fs) = last_stream_of (stream_or last f) fs
