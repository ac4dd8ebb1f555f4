use Rattle.std.proofs.Common.{◌≡◌, ◌-◌, length, vec_len}
use Rattle.qs_wire.specs.Grammar.{canonical}
use Rattle.qs_wire.specs.Layout.{view}
use Rattle.qs_text.proofs.payload.push_canonical.Given as goal

abbrev pub invariant-loop-len : goal.invariant-loop-len
invariant-loop-len l = l.bytes.items ≡ l.fn.bytes.items

-- how much longer the text is than the room
abbrev pub decreases-loop-len : goal.decreases-loop-len
decreases-loop-len l = length (canonical (view l.frame)) - vec_len l.room
