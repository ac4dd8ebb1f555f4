-- Of public contracts.
-- How much memory a sending half takes for the bytes that it keeps.
use Rattle.std.specs.Prelude.{◌≡◌, ℕ, true, Option, None, Some}
use Rattle.std.specs.Borrow.{Bor}
use Rattle.qs_send.specs.Lane.{SendLane, is_whole}
use Rattle.qs_send.specs.Offsets.{HeldParts}

-- so many bytes as the buffer has places in which these offsets keep the half's bytes, and none once all are acknowledged and the end
abbrev pub IsMemoryOf : SendLane → Option (Bor HeldParts) → ℕ → Type 0
IsMemoryOf lane (Some offsets) n = (offsets.now.parts.kept ≡ lane.kept) × (n ≡ offsets.now.room)
IsMemoryOf lane None n = (is_whole lane ≡ true) × (n ≡ 0)
