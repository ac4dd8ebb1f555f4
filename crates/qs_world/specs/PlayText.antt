-- Of public contracts.
-- The printed lines of a report.
use Rattle.std.specs.Prelude.{ℕ, List, [], ◌∷◌, ◌++◌, flat_map, codes, decimal, Option, None, Some}
use Rattle.qs_calls.specs.declared.closing.Closing.{Closing}
use Rattle.qs_calls.specs.declared.event.Side.{Side}
use Rattle.qs_calls.specs.declared.event.Side.TheVariants.{A, B}
use Rattle.qs_text.specs.EventText.{also, line, side_text, yes_text, closing_text, step_text}
use Rattle.qs_world.specs.declared.report.LaneTotals.{LaneTotals}
use Rattle.qs_world.specs.declared.report.EndTotals.{EndTotals}
use Rattle.qs_world.specs.declared.report.Report.{Report}

abbrev pub number_text : Option ℕ → List ℕ
number_text None = codes "none"
number_text (Some n) = decimal n

abbrev pub lane_text : LaneTotals → List ℕ
lane_text l =
    codes "lane " ++ side_text l.sender ++ also (decimal l.id) ++ codes " written " ++ decimal l.written ++ codes " read " ++ decimal l.read
    ++ codes " received " ++ yes_text l.received ++ codes " declared " ++ number_text l.declared ++ codes " known " ++ number_text l.known

abbrev pub closing_part : Option Closing → List ℕ
closing_part None = []
closing_part (Some closing) = also (closing_text closing)

abbrev pub end_text : Side → EndTotals → List ℕ
end_text s e =
    codes "end " ++ side_text s ++ codes " spent " ++ decimal e.spent ++ codes " granted " ++ decimal e.granted ++ codes " stored " ++ decimal e.stored
    ++ closing_part e.closing

-- the ends' lines, A's first
abbrev pub ends_text : List EndTotals → List ℕ
ends_text [] = []
ends_text (a ∷ []) = line (end_text A a)
ends_text (a ∷ b ∷ more) = line (end_text A a) ++ line (end_text B b)

-- a line for each event with its answer, one for each lane, one for each end
abbrev pub play_text : Report → List ℕ
play_text report =
    flat_map (λ x. line (step_text x)) report.log.items
    ++ flat_map (λ l. line (lane_text l)) report.lanes.items
    ++ ends_text report.ends
