-- Of public contracts.
-- Which sending lanes take bytes now (RFC 9000, sections 2.2, 2.4 and 3.1).
use Rattle.std.specs.Prelude.{Bool, ◌&&◌, is_none, nat_lt}
use Rattle.qs_send.specs.Lane.{SendLane, accepted, refusal}

-- whether a write of one byte isn't refused, and the byte is accepted (RFC 9000, sections 2.2 and 2.4)
abbrev pub is_writable : SendLane → Bool
is_writable lane = is_none (refusal lane) && nat_lt 0 (accepted lane 1)
