-- Trusted.
-- Which events a script may name. The whole file is ours: RFC 9000 knows no scripts, and numbers are bounded by its section 16.
use Rattle.std.specs.Prelude.{Bool, true, ◌&&◌, nat_le, length}
use Rattle.qs_ranges.specs.Numbers.{MAX_VARINT}
use Rattle.qs_calls.specs.declared.event.Act.{Act}
use Rattle.qs_calls.specs.declared.event.Act.TheVariants.{OpenStream, Accept, Write, Finish, Reset, Stop, ReadUpTo, Make, Lose, Claim, Deliver}
use Rattle.qs_calls.specs.declared.event.Event.{Event}

-- whether each number lies in its range
abbrev pub act_fits : Act → Bool
act_fits (OpenStream dir) = true
act_fits Accept = true
act_fits (Write n bytes) = nat_le (length bytes.items) 65535
act_fits (Finish n) = true
act_fits (Reset n code) = nat_le code MAX_VARINT
act_fits (Stop n code) = nat_le code MAX_VARINT
act_fits (ReadUpTo n size) = nat_le size 65535
act_fits (Make room) = nat_le 128 room && nat_le room 16383
act_fits (Lose k) = nat_le k MAX_VARINT
act_fits Claim = true
act_fits (Deliver k) = nat_le k MAX_VARINT

-- of an event the act's
abbrev pub fits : Event → Bool
fits event = act_fits event.act
