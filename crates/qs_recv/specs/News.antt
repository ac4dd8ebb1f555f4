-- Trusted.
-- What a receiving lane has for its owner that the owner wasn't told (RFC 9000, sections 2.2 and 3.2).
use Rattle.std.specs.Prelude.{Bool, true, false, not, ◌&&◌}
use Rattle.qs_recv.specs.declared.half.Read.{Read}
use Rattle.qs_recv.specs.declared.half.Read.TheVariants.{Bytes, End, Reset, Wait}
use Rattle.qs_recv.specs.Lane.{RecvLane, read_answer}

-- whether an answer tells of bytes, of the end or of a reset (RFC 9000, section 2.2)
abbrev pub tells_something : Read → Bool
tells_something (Bytes n) = true
tells_something (End) = true
tells_something (Reset code) = true
tells_something (Wait) = false

-- whether a read of one byte would tell something new: an end or a reset that was told once stays so (RFC 9000, section 3.2)
abbrev pub is_readable : RecvLane → Bool
is_readable lane = not lane.reader_done && tells_something (read_answer lane 1)
