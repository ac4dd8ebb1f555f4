-- Of public contracts.
-- One token for a packet that is filled in parts (RFC 9000, section 13.3; the token is ours).
use Rattle.std.specs.Prelude.{◌+◌, ◌&&◌, nat_eq, Option, Some, None, if◌then◌else◌}
use Rattle.qs_calls.specs.declared.token.Token.{Token}

-- the second token's numbers follow the first one's, and one end gave both
abbrev pub joined : Token → Token → Option Token
joined t next = if nat_eq next.epoch t.epoch && nat_eq next.first (t.number + 1) then Some (record { epoch = t.epoch; first = t.first; number = next.number }) else None
