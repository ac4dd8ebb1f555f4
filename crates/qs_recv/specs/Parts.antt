-- Of private contracts.
-- A receiving half stores nothing and is kept by its numbers alone, or stands in a box with its assembly.
use Rattle.qs_recv.specs.Lane.{RecvLane}
use Rattle.qs_recv.specs.declared.half.Kept.TheVariants.{Over, Rest}
use Rattle.qs_recv.specs.declared.half.Parts.{Parts}
use Rattle.qs_recv.specs.declared.half.Parts.TheVariants as parts

-- its lane
abbrev pub lane_of : {A : Type 0} → Parts A → RecvLane
lane_of (parts.Kept (Over over)) = over
lane_of (parts.Kept (Rest rest)) = rest.value
lane_of (parts.Live live) = live.value
