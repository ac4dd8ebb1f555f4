-- Of laws and of private contracts: a run of bytes by offset, and what is left of an assembly once so many bytes were read.
use Rattle.std.specs.Prelude.{ℕ, ◌+◌, ◌-◌, if◌then◌else◌, nat_le, List, slice_get, Option, None}
use Rattle.qs_recv.specs.Assembled.{Assembled, keep_from}

-- the byte that a run of bytes has at an offset
abbrev pub byte_at : ℕ → List ℕ → ℕ → Option ℕ
byte_at at bytes q = if nat_le at q then slice_get bytes (q - at) else None

-- an assembly after n bytes were read
abbrev pub take_exactly : Assembled → ℕ → Assembled
take_exactly a n = record a { stored = keep_from a.stored (a.read_count + n); read_count = a.read_count + n }
