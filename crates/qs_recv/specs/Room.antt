-- Of public contracts.
-- How much memory an assembly takes for what it stores.
use Rattle.std.specs.Borrow.{Bor}
use Rattle.std.specs.Prelude.{◌≡◌, ℕ, ◌-◌, ◌==◌, ◌||◌, Bool, true, min, Option, None, Some}
use Rattle.qs_ranges.specs.Numbers.{end_of}
use Rattle.qs_recv.specs.Assembled.{Assembled}
use Rattle.qs_recv.specs.Lane.{RecvLane}

-- of a ring: as many bytes as lie between what was read and the end of what came, or a page of 2,048 where these are more
abbrev pub least_room : Assembled → ℕ
least_room a = min 2048 (end_of a.received - a.read_count)

-- nothing came yet, or nothing is kept any more: the end or a reset was told, or bytes are thrown away
abbrev pub needs_no_room : RecvLane → Bool
needs_no_room lane = end_of lane.arrived.received == 0 || lane.reader_done || lane.arrived.discarding

-- so many bytes as this assembly says, which holds what the half does; and none without one
abbrev pub IsRoomOf : {A : Type 0} → (A → Assembled) → (A → ℕ) → RecvLane → Option (Bor A) → ℕ → Type 0
IsRoomOf holds size lane (Some a) n = (holds a.now ≡ lane.arrived) × (n ≡ size a.now)
IsRoomOf holds size lane None n = (needs_no_room lane ≡ true) × (n ≡ 0)
