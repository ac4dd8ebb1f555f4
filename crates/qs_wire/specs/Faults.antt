-- Trusted.
-- The code and the number of each fault.
use Rattle.std.specs.Prelude.{ℕ}
use Rattle.qs_wire.specs.declared.fault.FaultKind.{FaultKind}
use Rattle.qs_wire.specs.declared.fault.FaultKind.TheVariants.{Empty, LongType, UnknownType, Truncated, OffsetTooLarge, CountTooLarge, BelowZero, IdentifierLength}

-- PROTOCOL_VIOLATION or FRAME_ENCODING_ERROR (RFC 9000, section 20.1)
abbrev pub code_of : FaultKind → ℕ
code_of Empty = 0x0a
code_of LongType = 0x0a
code_of _ = 0x07

-- the kinds counted from 1
abbrev pub kind_number : FaultKind → ℕ
kind_number Empty = 1
kind_number LongType = 2
kind_number UnknownType = 3
kind_number Truncated = 4
kind_number OffsetTooLarge = 5
kind_number CountTooLarge = 6
kind_number BelowZero = 7
kind_number IdentifierLength = 8
